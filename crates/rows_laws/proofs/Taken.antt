-- From the scaled byte to the taken byte (MATHEMATICS 7). Restoring keeps the alpha and cuts each colour in its own lane. So the taken alpha is the scaled alpha,
-- and beside a taken alpha of 255 the taken colours are the scaled ones, whatever the sizes. Under the premise no scaled colour is above its alpha, since colour
-- and alpha are two pictures, the first nowhere lighter than the second: nothing is cut, and a lighter picture of the same alpha has no darker colour taken.
-- Assumes nothing.
use Prim.Native.Nat.{ℕ, ◌≤◌, ◌<◌}
use mathlib.Core.Path.{◌≡◌, sym, ◌∙◌, ap}
use mathlib.Core.Bool.{true, false}
use native.Mathlib.Omega.{arith}
use native.Mathlib.Nat.{le_trans}
use Rattle.arithmetic.specs.Weight.{span}
use Rattle.arithmetic.specs.Matte.{lane_of, pixel_of, mult_argb, scale_colour, matte_factor, restore_factor, factor_of}
use Rattle.arithmetic.proofs.Mattes.{lane_byte_lem, matte_colour, matte_within, scale_colour_mono, cut_mono, restore_not_cut, restored_alpha, restored_colour, restored_opaque, restored_clear}
use Rattle.rows.specs.Closed.{scaled}
use Rattle.rows_laws.specs.Mean.{Premise}
use Rattle.rows_laws.proofs.Monotone.{scaled_mono, scaled_byte_lem}

-- ---- restoring is monotone in the colour for one alpha
pub restored_mono : (s s' : ℕ → ℕ) → ((k : ℕ) → k < 4 → s k ≤ 255) → ((k : ℕ) → k < 4 → s' k ≤ 255) → s 3 ≡ s' 3 → ((k : ℕ) → k < 3 → s k ≤ s' k) → (k : ℕ) → k < 3
    → lane_of (mult_argb (pixel_of s) true) k ≤ lane_of (mult_argb (pixel_of s') true) k
restored_mono s s' bytes bytes' same le k l =
    rw (restored_colour s bytes k l, restored_colour s' bytes' k l, same) (cut_mono (factor_of true (s' 3)) (le k l))

-- ---- pixel j of output row y of the picture whose lane k is p k, restored; lane 3 is the alpha
abbrev pub taken_pixel : ℕ → ℕ → ℕ → ℕ → (ℕ → ℕ → ℕ → ℕ) → ℕ → ℕ → ℕ
taken_pixel n m h g p j y = mult_argb (pixel_of (λ k. scaled n m h g (p k) j y)) true

-- a matted picture: bytes, and no colour above its alpha
pub record Matted (n h : ℕ) (p : ℕ → ℕ → ℕ → ℕ) : Type 0 where
  pub alpha : (c i : ℕ) → c < h → i < n → p 3 c i ≤ 255
  pub colour : (k : ℕ) → k < 3 → (c i : ℕ) → c < h → i < n → p k c i ≤ p 3 c i

-- mult_argb (matte) makes one of any pixels
pub matte_matted : (n h : ℕ) (argb : ℕ → ℕ → ℕ) → Matted n h (λ k c i. lane_of (mult_argb (argb c i) false) k)
matte_matted n h argb =
    record { alpha = λ c i l u. lane_byte_lem (mult_argb (argb c i) false) 3; colour = λ k b c i l u. matte_within (argb c i) k b }

-- and is monotone in the colour for one alpha: for request 10 (SCOPE)
pub matte_mono : (argb argb' k : ℕ) → k < 3 → lane_of argb 3 ≡ lane_of argb' 3 → lane_of argb k ≤ lane_of argb' k → lane_of (mult_argb argb false) k ≤ lane_of (mult_argb argb' false) k
matte_mono argb argb' k l same le =
    rw (matte_colour argb k l, matte_colour argb' k l, same) (scale_colour_mono (matte_factor (lane_of argb' 3)) le)

-- ---- whatever the sizes
module _ (n m h g j y : ℕ) (p : ℕ → ℕ → ℕ → ℕ) where
  -- the pixel's lanes before it is restored
  abbrev lanes : ℕ → ℕ
  lanes k = scaled n m h g (p k) j y

  lanes_bytes : (k : ℕ) → k < 4 → lanes k ≤ 255
  lanes_bytes k l = scaled_byte_lem n m h g (p k) j y

  pub taken_alpha : lane_of (taken_pixel n m h g p j y) 3 ≡ lanes 3
  taken_alpha = restored_alpha lanes lanes_bytes

  pub taken_opaque : lane_of (taken_pixel n m h g p j y) 3 ≡ 255 → (k : ℕ) → k < 4 → lane_of (taken_pixel n m h g p j y) k ≡ lanes k
  taken_opaque e = restored_opaque lanes lanes_bytes (sym taken_alpha ∙ e)

  pub taken_clear : lane_of (taken_pixel n m h g p j y) 3 ≡ 0 → (k : ℕ) → lane_of (taken_pixel n m h g p j y) k ≡ 0
  taken_clear e = restored_clear lanes lanes_bytes (sym taken_alpha ∙ e)

-- ---- under the premise
module _ (n m h g j y : ℕ) (wide : 0 < n) (small : m ≤ 16384) (high : 0 < h) (low : g ≤ 16384) (column : j < m) (row : y < g) (premise : Premise (span n m) h g) where
  module _ (p : ℕ → ℕ → ℕ → ℕ) (matted : Matted n h p) where
    -- no scaled colour is above its scaled alpha
    pub colour_under_alpha : (k : ℕ) → k < 3 → scaled n m h g (p k) j y ≤ scaled n m h g (p 3) j y
    colour_under_alpha k l =
        scaled_mono n m h g (p k) (p 3) j y wide small high low column row premise (matted.colour k l) matted.alpha

    -- so nothing is cut: the colour is the Rust's
    pub taken_colour : (k : ℕ) → k < 3 → lane_of (taken_pixel n m h g p j y) k ≡ scale_colour (scaled n m h g (p k) j y) (restore_factor (scaled n m h g (p 3) j y))
    unfolding factor_of
    taken_colour k l =
        restored_colour (lanes n m h g j y p) (lanes_bytes n m h g j y p) k l ∙ restore_not_cut _ _ (colour_under_alpha k l)

  -- lighter in, no darker out: two pictures with the same alpha
  module _ (p p' : ℕ → ℕ → ℕ → ℕ) (matted : Matted n h p') (same : (c i : ℕ) → c < h → i < n → p 3 c i ≡ p' 3 c i) (le : (k : ℕ) → k < 3 → (c i : ℕ) → c < h → i < n → p k c i ≤ p' k c i) where
    same_alpha : scaled n m h g (p 3) j y ≡ scaled n m h g (p' 3) j y
    same_alpha =
        let up = scaled_mono n m h g (p 3) (p' 3) j y wide small high low column row premise (λ c i l u. omega (arith, same c i l u)) matted.alpha in
        let down = scaled_mono n m h g (p' 3) (p 3) j y wide small high low column row premise (λ c i l u. omega (arith, same c i l u)) (λ c i l u. omega (arith, same c i l u, matted.alpha c i l u)) in
        omega arith

    pub taken_mono : (k : ℕ) → k < 3 → lane_of (taken_pixel n m h g p j y) k ≤ lane_of (taken_pixel n m h g p' j y) k
    taken_mono =
        restored_mono (lanes n m h g j y p) (lanes n m h g j y p') (lanes_bytes n m h g j y p) (lanes_bytes n m h g j y p') same_alpha
        (λ k l. scaled_mono n m h g (p k) (p' k) j y wide small high low column row premise (le k l) (λ c i a b. le_trans (matted.colour k l c i a b) (matted.alpha c i a b)))
