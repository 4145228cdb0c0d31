-- Matting and restoring. The lanes of a pixel; one form of the scaled colour for every alpha, its bounds and monotony (MATHEMATICS 6); and from these
-- the lanes of mult_argb, for every pixel: each colour scaled and cut at 255, the alpha kept. Assumes nothing.
use Rattle.std.proofs.Common.{◌≡◌, ℕ, zero, suc, ◌+◌, ◌-◌, ◌*◌, ◌/◌, ◌%◌, ◌^◌, ◌<◌, ◌≤◌, min, Bool, true, false, List, [], ◌∷◌, get_or, sym, refl, ap, ◌∙◌, ap₂, ⊎_elim, le_trans, le_of_suc-le-suc, mul-le-mul_right, eq-zero-or-pos, eq-or-lt_of_le, div-le_self, arith, lt-ltb, eq-eqb, ne_eqb}
use native.Mathlib.Nat.{div-zero}
use Rattle.std.specs.Int.{w32, to_le_bytes, from_le_bytes}
use Rattle.arithmetic.specs.Matte.{lane_of, pixel_of, matte_factor, restore_factor, factor_of, scale_colour, cut_colour, mult_lane, mult_argb, restore_factors, restored_by}
use Rattle.arithmetic.proofs.Orders.{le_or_lt}
use Rattle.arithmetic.proofs.Products.{byte_product}
use Rattle.arithmetic.proofs.Quotients.{div_low, div_high}
use Rattle.arithmetic.proofs.Tables.{get_d_tabulate}

-- ---- lanes
pub lane_byte_lem : (argb k : ℕ) → lane_of argb k ≤ 255
unfolding lane_of
lane_byte_lem argb k = omega arith

-- the alpha is the high byte
pub lane_high : (argb : ℕ) → argb < 2 ^ 32 → lane_of argb 3 ≡ argb / 2 ^ 24
unfolding lane_of
lane_high argb h = omega arith

pub lane_zero : (k : ℕ) → lane_of 0 k ≡ 0
unfolding lane_of
lane_zero k = omega (arith, div-le_self 0 (2 ^ (8 * k)))

-- the library's bytes of a word, the lowest first, are its lanes
pub bytes_lane : (argb : ℕ) (bytes : List ℕ) → bytes ≡ to_le_bytes w32 argb → (k : ℕ) → k < 4 → get_or bytes k 0 ≡ lane_of argb k
unfolding lane_of
bytes_lane argb bytes e zero l = rw e (omega arith)
bytes_lane argb bytes e (suc zero) l = rw e
bytes_lane argb bytes e (suc (suc zero)) l = rw e
bytes_lane argb bytes e (suc (suc (suc zero))) l = rw e
bytes_lane argb bytes e (suc (suc (suc (suc k)))) l = absurd (omega arith)

-- and the word that the library makes of bytes, the lowest first, is the pixel of these lanes
pub bytes_pixel : (bytes : List ℕ) → from_le_bytes w32 bytes ≡ pixel_of (λ k. get_or bytes k 0)
unfolding pixel_of
bytes_pixel bytes = omega arith

-- the four lanes make the pixel
pub lanes_make : (argb : ℕ) → argb < 2 ^ 32 → pixel_of (lane_of argb) ≡ argb
unfolding lane_of pixel_of
lanes_make argb h =
    let alpha : argb / 2 ^ 24 % 2 ^ 8 ≡ argb / 2 ^ 24 = omega arith in
    let red : argb / 2 ^ 16 ≡ 2 ^ 8 * (argb / 2 ^ 24) + argb / 2 ^ 16 % 2 ^ 8 = omega arith in
    let green : argb / 2 ^ 8 ≡ 2 ^ 8 * (argb / 2 ^ 16) + argb / 2 ^ 8 % 2 ^ 8 = omega arith in
    let blue : argb ≡ 2 ^ 8 * (argb / 2 ^ 8) + argb / 1 % 2 ^ 8 = omega arith in
    omega arith

-- and a pixel made of four bytes has them as its lanes
pub pixel_lane : (p : ℕ → ℕ) → ((k : ℕ) → k < 4 → p k ≤ 255) → (k : ℕ) → k < 4 → lane_of (pixel_of p) k ≡ p k
unfolding lane_of pixel_of
pixel_lane p h k l = at k l (h 0 (omega arith)) (h 1 (omega arith)) (h 2 (omega arith)) (h 3 (omega arith))
  where
    at : (k : ℕ) → k < 4 → p 0 ≤ 255 → p 1 ≤ 255 → p 2 ≤ 255 → p 3 ≤ 255 → lane_of (pixel_of p) k ≡ p k
    at zero l b g r a = omega arith
    at (suc zero) l b g r a = omega arith
    at (suc (suc zero)) l b g r a = omega arith
    at (suc (suc (suc zero))) l b g r a = omega arith
    at (suc (suc (suc (suc k)))) l b g r a = absurd (omega arith)

-- the same lanes, the same pixel
pub pixel_cong : (p q : ℕ → ℕ) → ((k : ℕ) → k < 4 → p k ≡ q k) → pixel_of p ≡ pixel_of q
unfolding pixel_of
pixel_cong p q h = omega (arith, h 0 (omega arith), h 1 (omega arith), h 2 (omega arith), h 3 (omega arith))

-- ---- a colour scaled: the definition, and that it is monotone in the colour
pub scale_is : (c k : ℕ) → scale_colour c k ≡ (c * k + 2 ^ 23) / 2 ^ 24
unfolding scale_colour
scale_is c k = refl

pub scale_colour_mono : {c c' : ℕ} (k : ℕ) → c ≤ c' → scale_colour c k ≤ scale_colour c' k
unfolding scale_colour
scale_colour_mono k h = omega (arith, mul-le-mul_right k h)

-- one form for every alpha: c × a / 255 to the nearest, also as the two quotients by 256 that the code takes
pub matte_rounded : (c a : ℕ) → c ≤ 255 → a ≤ 255 → scale_colour c (matte_factor a) ≡ (c * a + 127) / 255
unfolding scale_colour matte_factor
matte_rounded c a hc ha = go (c * a) (byte_product hc ha) (omega arith)
  where
    go : (x : ℕ) → x ≤ 65025 → c * (65793 * a) ≡ 65793 * x → (c * (65793 * a) + 2 ^ 23) / 2 ^ 24 ≡ (x + 127) / 255
    go x h e = omega arith

pub matte_halves : (c a : ℕ) → c ≤ 255 → a ≤ 255 → scale_colour c (matte_factor a) ≡ (c * a + 128 + (c * a + 128) / 256) / 256
matte_halves c a hc ha = matte_rounded c a hc ha ∙ sym (go (c * a) (byte_product hc ha))
  where
    go : (x : ℕ) → x ≤ 65025 → (x + 128 + (x + 128) / 256) / 256 ≡ (x + 127) / 255
    go x h = omega arith

-- a matted colour is at most its alpha: 65793 × 255 is 2^24 - 1
pub matte_most : (c a : ℕ) → c ≤ 255 → scale_colour c (matte_factor a) ≤ a
unfolding scale_colour matte_factor
matte_most c a h = omega (arith, mul-le-mul_right a h)

-- a colour at most its alpha restores to a byte
pub restore_most : (c a : ℕ) → c ≤ a → scale_colour c (restore_factor a) ≤ 255
unfolding scale_colour restore_factor
restore_most c a h = go (255 * 2 ^ 24 / a) (div_low (255 * 2 ^ 24) a)
  where
    go : (k : ℕ) → k * a ≤ 255 * 2 ^ 24 → (c * k + 2 ^ 23) / 2 ^ 24 ≤ 255
    go k l = omega (arith, mul-le-mul_right k h)

-- the alpha itself restores to 255, so that the smaller of colour and alpha, restored, is the colour restored and cut at 255
restore_own : (a : ℕ) → 0 < a → a ≤ 255 → scale_colour a (restore_factor a) ≡ 255
unfolding scale_colour restore_factor
restore_own a l u = go (255 * 2 ^ 24 / a) (div_low (255 * 2 ^ 24) a) (div_high (255 * 2 ^ 24) a l)
  where
    go : (k : ℕ) → k * a ≤ 255 * 2 ^ 24 → 255 * 2 ^ 24 < k * a + a → (a * k + 2 ^ 23) / 2 ^ 24 ≡ 255
    go k low high = omega arith

restore_cut : (c a : ℕ) → 0 < a → a ≤ 255 → scale_colour (min c a) (restore_factor a) ≡ cut_colour c (restore_factor a)
unfolding cut_colour
restore_cut c a l u = ⊎_elim within above (le_or_lt c a)
  where
    within : c ≤ a → scale_colour (min c a) (restore_factor a) ≡ min (scale_colour c (restore_factor a)) 255
    within h =
        let same : min c a ≡ c = omega arith in
        rw same (omega (arith, restore_most c a h))

    above : a < c → scale_colour (min c a) (restore_factor a) ≡ min (scale_colour c (restore_factor a)) 255
    above h =
        let same : min c a ≡ a = omega arith in
        let less : a ≤ c = omega arith in
        rw same (omega (arith, restore_own a l u, scale_colour_mono (restore_factor a) less))

-- ---- a colour cut
pub cut_byte : (c k : ℕ) → cut_colour c k ≤ 255
unfolding cut_colour
cut_byte c k = omega arith

pub cut_mono : {c c' : ℕ} (k : ℕ) → c ≤ c' → cut_colour c k ≤ cut_colour c' k
unfolding cut_colour
cut_mono k h = omega (arith, scale_colour_mono k h)

-- alpha 255 leaves a byte as it is, alpha 0 gives 0, in both directions
cut_opaque : (inverse : Bool) (c : ℕ) → c ≤ 255 → cut_colour c (factor_of inverse 255) ≡ c
unfolding cut_colour scale_colour factor_of matte_factor restore_factor
cut_opaque true c h = omega arith
cut_opaque false c h = omega arith

cut_clear : (inverse : Bool) (c : ℕ) → cut_colour c (factor_of inverse 0) ≡ 0
unfolding cut_colour scale_colour factor_of matte_factor restore_factor
cut_clear true c = rw (div-zero (255 * 2 ^ 24)) (omega arith)
cut_clear false c = omega arith

-- nothing is cut of a colour that stays within 255: of a matted one, and of a restored one at most its alpha
not_cut : (c k : ℕ) → scale_colour c k ≤ 255 → cut_colour c k ≡ scale_colour c k
unfolding cut_colour
not_cut c k h = omega arith

pub matte_not_cut : (c a : ℕ) → c ≤ 255 → a ≤ 255 → cut_colour c (matte_factor a) ≡ scale_colour c (matte_factor a)
matte_not_cut c a hc ha = not_cut c (matte_factor a) (le_trans (matte_most c a hc) ha)

pub restore_not_cut : (c a : ℕ) → c ≤ a → cut_colour c (restore_factor a) ≡ scale_colour c (restore_factor a)
restore_not_cut c a h = not_cut c (restore_factor a) (restore_most c a h)

-- the three cases of an alpha
by_alpha : {P : Type 0} (a : ℕ) → a ≤ 255 → (a ≡ 255 → P) → (a ≡ 0 → P) → (0 < a → a < 255 → P) → P
by_alpha a h opaque clear between = ⊎_elim opaque (λ u. ⊎_elim clear (λ l. between l u) (eq-zero-or-pos a)) (eq-or-lt_of_le h)

-- ---- one colour by lent factors: lent SCOPE's, it is mult_argb's, for every alpha alike
pub lent_opaque : (factors : List ℕ) (c a : ℕ) → a ≡ 255 → restored_by factors c a ≡ c
unfolding restored_by
lent_opaque factors c a e = simp (eq-eqb a 255 e)

pub lent_clear : (factors : List ℕ) (c a : ℕ) → a ≡ 0 → restored_by factors c a ≡ 0
unfolding restored_by
lent_clear factors c a e = simp e

pub lent_between : (factors : List ℕ) (c a : ℕ) → 0 < a → a < 255 → restored_by factors c a ≡ scale_colour (min c a) (get_or factors (a - 1) 0)
unfolding restored_by
lent_between factors c a l u = simp (ne_eqb a 255 (λ e. omega arith), ne_eqb a 0 (λ e. omega arith))

-- the entry of an alpha is its factor
factor_entry : (a : ℕ) → 0 < a → a < 255 → get_or restore_factors (a - 1) 0 ≡ restore_factor a
unfolding restore_factors
factor_entry a l u = get_d_tabulate (λ i. restore_factor (suc i)) 254 (a - 1) (omega arith) ∙ ap restore_factor (omega arith)

pub lent_is : {factors : List ℕ} {v : ℕ} (c a : ℕ) → c ≤ 255 → a ≤ 255 → factors ≡ restore_factors → v ≡ restored_by factors c a → v ≡ cut_colour c (factor_of true a)
unfolding factor_of
lent_is c a hc ha lent e =
    e
    ∙ ap (λ (factors : List ℕ). restored_by factors c a) lent
    ∙ by_alpha a ha
    (λ o. lent_opaque restore_factors c a o ∙ rw o (sym (cut_opaque true c hc)))
    (λ o. lent_clear restore_factors c a o ∙ rw o (sym (cut_clear true c)))
    (λ l u. lent_between restore_factors c a l u ∙ ap (scale_colour (min c a)) (factor_entry a l u) ∙ restore_cut c a l ha)

-- ---- mult_argb: its three cases
pub argb_opaque : (argb : ℕ) (inverse : Bool) → lane_of argb 3 ≡ 255 → mult_argb argb inverse ≡ argb
unfolding mult_argb
argb_opaque argb inverse e = simp (eq-eqb (lane_of argb 3) 255 e)

pub argb_clear : (argb : ℕ) (inverse : Bool) → lane_of argb 3 ≡ 0 → mult_argb argb inverse ≡ 0
unfolding mult_argb
argb_clear argb inverse e = simp e

argb_between : (argb : ℕ) (inverse : Bool) → 0 < lane_of argb 3 → lane_of argb 3 < 255 → mult_argb argb inverse ≡ pixel_of (mult_lane argb (factor_of inverse (lane_of argb 3)))
unfolding mult_argb
argb_between argb inverse l u =
    simp (ne_eqb (lane_of argb 3) 255 (λ e. omega arith), ne_eqb (lane_of argb 3) 0 (λ e. omega arith))

-- ---- its lanes, for every pixel and in both directions
scaled_colour : (argb f k : ℕ) → k < 3 → mult_lane argb f k ≡ cut_colour (lane_of argb k) f
unfolding mult_lane
scaled_colour argb f k l = simp (lt-ltb k 3 l)

scaled_alpha : (argb f : ℕ) → mult_lane argb f 3 ≡ lane_of argb 3
unfolding mult_lane
scaled_alpha argb f = refl

-- what holds of the three colours and of the alpha holds of each lane
each_lane : (P : ℕ → Type 0) → ((k : ℕ) → k < 3 → P k) → P 3 → (k : ℕ) → k < 4 → P k
each_lane P colours alpha k l = ⊎_elim (λ e. rw e alpha) (colours k) (eq-or-lt_of_le (le_of_suc-le-suc l))

scaled_byte_lem : (argb f k : ℕ) → k < 4 → mult_lane argb f k ≤ 255
scaled_byte_lem argb f =
    each_lane (λ k. mult_lane argb f k ≤ 255)
    (λ k l. rw (scaled_colour argb f k l) (cut_byte (lane_of argb k) f))
    (rw (scaled_alpha argb f) (lane_byte_lem argb 3))

module _ (argb : ℕ) (inverse : Bool) where
  abbrev factor : ℕ
  factor = factor_of inverse (lane_of argb 3)

  scaled_opaque : lane_of argb 3 ≡ 255 → (k : ℕ) → k < 4 → mult_lane argb factor k ≡ lane_of argb k
  scaled_opaque e =
      each_lane (λ k. mult_lane argb factor k ≡ lane_of argb k)
      (λ k l. scaled_colour argb factor k l ∙ rw e (cut_opaque inverse (lane_of argb k) (lane_byte_lem argb k)))
      (scaled_alpha argb factor)

  scaled_clear : lane_of argb 3 ≡ 0 → (k : ℕ) → k < 4 → mult_lane argb factor k ≡ lane_of 0 k
  scaled_clear e =
      each_lane (λ k. mult_lane argb factor k ≡ lane_of 0 k)
      (λ k l. scaled_colour argb factor k l ∙ rw e (cut_clear inverse (lane_of argb k)) ∙ sym (lane_zero k))
      (scaled_alpha argb factor ∙ e ∙ sym (lane_zero 3))

  argb_lane : (k : ℕ) → k < 4 → lane_of (mult_argb argb inverse) k ≡ mult_lane argb factor k
  argb_lane k l =
      by_alpha (lane_of argb 3) (lane_byte_lem argb 3)
      (λ e. rw (argb_opaque argb inverse e) (sym (scaled_opaque e k l)))
      (λ e. rw (argb_clear argb inverse e) (sym (scaled_clear e k l)))
      (λ p u. ap (λ (t : ℕ). lane_of t k) (argb_between argb inverse p u) ∙ pixel_lane (mult_lane argb factor) (scaled_byte_lem argb factor) k l)

  -- the pixel put together, of its colours as the code finds them
  argb_pixel : argb < 2 ^ 32 → mult_argb argb inverse ≡ pixel_of (mult_lane argb factor)
  argb_pixel word =
      by_alpha (lane_of argb 3) (lane_byte_lem argb 3)
      (λ e. argb_opaque argb inverse e ∙ sym (lanes_make argb word) ∙ sym (pixel_cong _ _ (scaled_opaque e)))
      (λ e. argb_clear argb inverse e ∙ sym (lanes_make 0 (omega arith)) ∙ sym (pixel_cong _ _ (scaled_clear e)))
      (argb_between argb inverse)

  colour_is : (k : ℕ) {c a : ℕ} → k < 3 → c ≡ lane_of argb k → a ≡ lane_of argb 3 → cut_colour c (factor_of inverse a) ≡ mult_lane argb factor k
  colour_is k l ec ea = ap₂ (λ (c a : ℕ). cut_colour c (factor_of inverse a)) ec ea ∙ sym (scaled_colour argb factor k l)

  pub argb_made : (bytes : List ℕ) {b g r w : ℕ} → argb < 2 ^ 32 → bytes ≡ to_le_bytes w32 argb
      → b ≡ cut_colour (get_or bytes 0 0) (factor_of inverse (get_or bytes 3 0)) → g ≡ cut_colour (get_or bytes 1 0) (factor_of inverse (get_or bytes 3 0))
      → r ≡ cut_colour (get_or bytes 2 0) (factor_of inverse (get_or bytes 3 0)) → w ≡ from_le_bytes w32 (b ∷ g ∷ r ∷ get_or bytes 3 0 ∷ [])
      → w ≡ mult_argb argb inverse
  unfolding pixel_of
  argb_made bytes word e eb eg er ew =
      let alpha = bytes_lane argb bytes e 3 (omega arith) in
      let blue = eb ∙ colour_is 0 (omega arith) (bytes_lane argb bytes e 0 (omega arith)) alpha in
      let green = eg ∙ colour_is 1 (omega arith) (bytes_lane argb bytes e 1 (omega arith)) alpha in
      let red = er ∙ colour_is 2 (omega arith) (bytes_lane argb bytes e 2 (omega arith)) alpha in
      omega (arith, ew, blue, green, red, alpha ∙ sym (scaled_alpha argb factor), argb_pixel word)

  -- each colour in its own lane
  pub argb_colour : (k : ℕ) → k < 3 → lane_of (mult_argb argb inverse) k ≡ cut_colour (lane_of argb k) factor
  argb_colour k l = argb_lane k (omega arith) ∙ scaled_colour argb factor k l

  -- the alpha survives, restored as matted
  pub argb_alpha : lane_of (mult_argb argb inverse) 3 ≡ lane_of argb 3
  argb_alpha = argb_lane 3 (omega arith) ∙ scaled_alpha argb factor

-- ---- a pixel of bytes, restored
module _ (p : ℕ → ℕ) (bytes : (k : ℕ) → k < 4 → p k ≤ 255) where
  lane_is : (k : ℕ) → k < 4 → lane_of (pixel_of p) k ≡ p k
  lane_is = pixel_lane p bytes

  pub restored_alpha : lane_of (mult_argb (pixel_of p) true) 3 ≡ p 3
  restored_alpha = argb_alpha (pixel_of p) true ∙ lane_is 3 (omega arith)

  pub restored_colour : (k : ℕ) → k < 3 → lane_of (mult_argb (pixel_of p) true) k ≡ cut_colour (p k) (factor_of true (p 3))
  restored_colour k l = argb_colour (pixel_of p) true k l ∙ rw (lane_is k (omega arith), lane_is 3 (omega arith))

  -- alpha 255 leaves all lanes as they are, alpha 0 clears them
  pub restored_opaque : p 3 ≡ 255 → (k : ℕ) → k < 4 → lane_of (mult_argb (pixel_of p) true) k ≡ p k
  restored_opaque e k l =
      ap (λ (t : ℕ). lane_of t k) (argb_opaque (pixel_of p) true (lane_is 3 (omega arith) ∙ e)) ∙ lane_is k l

  pub restored_clear : p 3 ≡ 0 → (k : ℕ) → lane_of (mult_argb (pixel_of p) true) k ≡ 0
  restored_clear e k =
      ap (λ (t : ℕ). lane_of t k) (argb_clear (pixel_of p) true (lane_is 3 (omega arith) ∙ e)) ∙ lane_zero k

-- ---- matting: nothing is cut, and no colour of the matted pixel is above its alpha
pub matte_colour : (argb k : ℕ) → k < 3 → lane_of (mult_argb argb false) k ≡ scale_colour (lane_of argb k) (matte_factor (lane_of argb 3))
unfolding factor_of
matte_colour argb k l =
    argb_colour argb false k l ∙ matte_not_cut (lane_of argb k) (lane_of argb 3) (lane_byte_lem argb k) (lane_byte_lem argb 3)

pub matte_within : (argb k : ℕ) → k < 3 → lane_of (mult_argb argb false) k ≤ lane_of (mult_argb argb false) 3
matte_within argb k l =
    rw (matte_colour argb k l, argb_alpha argb false) (matte_most (lane_of argb k) (lane_of argb 3) (lane_byte_lem argb k))
