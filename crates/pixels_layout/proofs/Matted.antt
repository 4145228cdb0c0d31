-- What the scaler reads of a row of bytes: each lane of the matted pixel is a colour scaled by its alpha or the alpha itself, never above 255. What is packed
-- again: the lanes of the restored pixel. Assumes nothing.
use Prim.Native.Nat.{ℕ, ◌+◌, ◌*◌, ◌/◌, ◌%◌, ◌≤◌, ◌<◌}
use mathlib.Core.Path.{◌≡◌, ap, ap₂, ◌∙◌}
use mathlib.Core.Bool.{true, false}
use mathlib.Core.List.{List}
use native.Mathlib.Omega.{arith}
use lib.ListN.{get_or}
use Rattle.arithmetic.specs.Matte.{lane_of, scale_colour, matte_factor, mult_argb}
use Rattle.arithmetic.proofs.Mattes.{lane_byte_lem, matte_colour, argb_alpha, pixel_cong}
use Rattle.pixels_layout.specs.declared.PixelLayout.{PixelLayout}
use Rattle.pixels.specs.Sizes.{pixel_lanes, row_bytes, half_values}
use Rattle.pixels_layout.specs.Layout.{place_of, alpha_lane, lane_at, alpha_at, pixel_at, packed_byte}
use Rattle.pixels_layout.specs.Lanes.{matted, restored_pixel, restored_place}
use Rattle.pixels_layout.proofs.Packing.{pixel_at_lane}

pub matted_byte : (l : PixelLayout) (s : List ℕ) (k i : ℕ) → matted l s k i ≤ 255
unfolding matted
matted_byte l s k i = lane_byte_lem _ k

module _ (l : PixelLayout) (s : List ℕ) (bytes : (x : ℕ) → get_or s x 0 ≤ 255) (i : ℕ) where
  -- a colour is scaled by the factor of the alpha beside it
  pub matted_colour : (k : ℕ) → k < alpha_lane → matted l s k i ≡ scale_colour (lane_at l s i k) (matte_factor (alpha_at l s i))
  unfolding matted
  matted_colour k h =
      matte_colour (pixel_at l s i) k h
      ∙ ap₂ (λ (x a : ℕ). scale_colour x (matte_factor a)) (pixel_at_lane l s i k bytes (omega arith)) (pixel_at_lane l s i alpha_lane bytes (omega arith))

  -- "alpha bytes are as offered"
  pub matted_alpha : matted l s alpha_lane i ≡ alpha_at l s i
  unfolding matted
  matted_alpha = argb_alpha (pixel_at l s i) false ∙ pixel_at_lane l s i alpha_lane bytes (omega arith)

-- Restoring and packing look at the lanes of the same pixel alone: lanes that agree on a row are packed to the same row.
pub restored_cong : (l : PixelLayout) (v w : ℕ → ℕ) (m z : ℕ) → z < row_bytes pixel_lanes m → ((x : ℕ) → x < half_values pixel_lanes m → v x ≡ w x) → restored_place l v z ≡ restored_place l w z
unfolding restored_place restored_pixel packed_byte
restored_cong l v w m z h same =
    ap (λ (t : ℕ). lane_of (mult_argb t true) (place_of l (z % pixel_lanes)))
    (pixel_cong (λ k. v (pixel_lanes * (z / pixel_lanes) + k)) (λ k. w (pixel_lanes * (z / pixel_lanes) + k)) (λ k u. same (pixel_lanes * (z / pixel_lanes) + k) (omega arith)))
