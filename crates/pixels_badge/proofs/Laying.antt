-- The bytes of the result: each lane is laid on the lane of the same pixel, whatever the two layouts, and the result is opaque. Assumes nothing.
use Prim.Native.Nat.{ℕ, zero, suc, ◌+◌, ◌*◌, ◌/◌, ◌%◌, ◌<◌}
use mathlib.Core.Path.{◌≡◌, refl, ap, ◌∙◌}
use mathlib.Core.Bool.{false}
use mathlib.Core.List.{List}
use native.Mathlib.Omega.{arith}
use lib.ListN.{length}
use Rattle.arithmetic.proofs.Tables.{length_tabulate, get_d_tabulate}
use Rattle.pixels.specs.Sizes.{pixel_lanes}
use Rattle.pixels_layout.specs.declared.PixelLayout.{PixelLayout}
use Rattle.pixels_layout.specs.Layout.{alpha_lane, place_of, lane_at, alpha_at}
use Rattle.pixels_layout.proofs.Tabled.{place_lt, place_twice}
use Rattle.pixels_alpha.specs.Alpha.{some_clear, has_alpha}
use Rattle.pixels_alpha.proofs.Flags.{clear_no, clear_none, clear_next}
use Rattle.pixels_badge.specs.Badge.{laid_lane, laid_byte, laid}
use Rattle.pixels_badge.proofs.Sums.{laid_clear, laid_full, alpha_laid}

-- ---- opaque: every alpha is 255
opaque_all : (a : ℕ → ℕ) (n : ℕ) → ((i : ℕ) → i < n → a i ≡ 255) → some_clear a n ≡ false
opaque_all a zero h = clear_none a
opaque_all a (suc n) h = ap (some_clear a) (omega arith) ∙ clear_next a n (opaque_all a n (λ i l. h i (omega arith))) (h n (omega arith))

pub alpha_opaque : (l : PixelLayout) (s : List ℕ) (n i : ℕ) → has_alpha l s n ≡ false → i < n → alpha_at l s i ≡ 255
unfolding has_alpha
alpha_opaque l s n i e h = clear_no (alpha_at l s) n e i h

-- ---- the result of n pixels, lane by lane
module _ (layout : PixelLayout) (pixels : List ℕ) (from : PixelLayout) (badge : List ℕ) (n : ℕ) (long : length pixels ≡ pixel_lanes * n) where
  byte_lane : (i j : ℕ) → j < pixel_lanes → laid_byte layout pixels from badge (pixel_lanes * i + j) ≡ laid_lane layout pixels from badge i (place_of layout j)
  unfolding laid_byte
  byte_lane i j h =
      let q : (pixel_lanes * i + j) / pixel_lanes ≡ i = omega arith in
      let r : (pixel_lanes * i + j) % pixel_lanes ≡ j = omega arith in
      rw (q, r) refl

  pub laid_lane_lem : (i k : ℕ) → i < n → k < pixel_lanes → lane_at layout (laid layout pixels from badge) i k ≡ laid_lane layout pixels from badge i k
  unfolding laid
  laid_lane_lem i k li lk =
      let small = place_lt layout k lk in
      get_d_tabulate (laid_byte layout pixels from badge) (length pixels) (pixel_lanes * i + place_of layout k) (omega arith)
      ∙ byte_lane i (place_of layout k) small
      ∙ ap (laid_lane layout pixels from badge i) (place_twice layout k lk)

  pub laid_length : length (laid layout pixels from badge) ≡ length pixels
  unfolding laid
  laid_length = length_tabulate (laid_byte layout pixels from badge) (length pixels)

  -- "For badge alpha 0 the background stays; for 255 the badge replaces it"
  pub lane_kept : (i k : ℕ) → i < n → k < pixel_lanes → alpha_at from badge i ≡ 0 → lane_at layout (laid layout pixels from badge) i k ≡ lane_at layout pixels i k
  lane_kept i k li lk e = laid_lane_lem i k li lk ∙ laid_clear k (alpha_at from badge i) (lane_at from badge i k) (lane_at layout pixels i k) e

  pub lane_replaced : (i k : ℕ) → i < n → k < pixel_lanes → alpha_at from badge i ≡ 255 → lane_at layout (laid layout pixels from badge) i k ≡ lane_at from badge i k
  lane_replaced i k li lk e = laid_lane_lem i k li lk ∙ laid_full k (alpha_at from badge i) (lane_at from badge i k) (lane_at layout pixels i k) e

  module _ (opaque : has_alpha layout pixels n ≡ false) where
    pub lane_opaque : (i : ℕ) → i < n → laid_lane layout pixels from badge i alpha_lane ≡ 255
    lane_opaque i l = alpha_laid alpha_lane (alpha_at from badge i) (alpha_at from badge i) (alpha_at layout pixels i) refl refl (alpha_opaque layout pixels n i opaque l)

    -- "the result is opaque"
    pub laid_opaque : has_alpha layout (laid layout pixels from badge) n ≡ false
    unfolding has_alpha
    laid_opaque = opaque_all (alpha_at layout (laid layout pixels from badge)) n (λ i l. laid_lane_lem i alpha_lane l (omega arith) ∙ lane_opaque i l)
