-- The sum of a badge's and a background's matted colour: it never passes 255, and it is the background's colour at alpha 0 and the badge's at 255, so that one
-- formula serves every alpha. Assumes nothing.
use Prim.Native.Nat.{ℕ, ◌+◌, ◌-◌, ◌≤◌}
use mathlib.Core.Path.{◌≡◌, refl, sym, ap, ◌∙◌}
use mathlib.Core.Bool.{true, false, cond}
use mathlib.Core.Logic.{◌⊎◌, inl, inr}
use native.Mathlib.Omega.{arith}
use lib.Dec.{eqb}
use borrow.Author.Tests.{eq-eqb, ne_eqb, eqb-true, eqb-false}
use Rattle.arithmetic.specs.Matte.{matte_factor, scale_colour}
use Rattle.arithmetic.proofs.Mattes.{matte_most}
use Rattle.pixels.proofs.Truths.{test}
use Rattle.pixels_layout.specs.Layout.{alpha_lane}
use Rattle.pixels_badge.specs.Badge.{matted, blended, laid_of}

-- ---- "That no such sum passes 255 is to be shown": a matted colour is at most its alpha
pub matted_most : (c a : ℕ) → c ≤ 255 → matted c a ≤ a
unfolding matted
matted_most c a h = matte_most c a h

pub blended_most : (a c d : ℕ) → a ≤ 255 → c ≤ 255 → d ≤ 255 → blended a c d ≤ 255
unfolding blended
blended_most a c d ha hc hd = omega (arith, matted_most c a hc, matted_most d (255 - a) hd)

-- ---- the two ends
matted_none : (c : ℕ) → c ≤ 255 → matted c 0 ≡ 0
matted_none c h = omega (arith, matted_most c 0 h)

matted_all : (c : ℕ) → c ≤ 255 → matted c 255 ≡ c
unfolding matted scale_colour matte_factor
matted_all c h = omega arith

pub blended_clear : (c d : ℕ) → c ≤ 255 → d ≤ 255 → blended 0 c d ≡ d
unfolding blended
blended_clear c d hc hd = omega (arith, matted_none c hc, matted_all d hd)

pub blended_opaque : (c d : ℕ) → c ≤ 255 → d ≤ 255 → blended 255 c d ≡ c
unfolding blended
blended_opaque c d hc hd = omega (arith, matted_all c hc, matted_none d hd)

-- two alphas of 255, by alphas that sum to 255
matted_whole : (a : ℕ) → a ≤ 255 → matted 255 a ≡ a
unfolding matted scale_colour matte_factor
matted_whole a h = omega arith

pub blended_whole : (a : ℕ) → a ≤ 255 → blended a 255 255 ≡ 255
unfolding blended
blended_whole a h = omega (arith, matted_whole a h, matted_whole (255 - a) (omega arith))

-- ---- the three cases
module _ (k a c d : ℕ) where
  pub laid_clear : a ≡ 0 → laid_of k a c d ≡ d
  unfolding laid_of
  laid_clear e = simp (eq-eqb a 0 e)

  pub laid_full : a ≡ 255 → laid_of k a c d ≡ c
  unfolding laid_of
  laid_full e = simp (ne_eqb a 0 (λ z. omega arith), eq-eqb a 255 e)

  between : (a ≡ 0 → ⊥) → (a ≡ 255 → ⊥) → laid_of k a c d ≡ cond (eqb k alpha_lane) 255 (blended a c d)
  unfolding laid_of
  between z f = simp (ne_eqb a 0 z, ne_eqb a 255 f)

  -- over an opaque background the alpha is 255 in each; the badge's own lane is its alpha
  pub alpha_laid : k ≡ alpha_lane → c ≡ a → d ≡ 255 → laid_of k a c d ≡ 255
  alpha_laid here own opaque = by (test (eqb a 0)) (test (eqb a 255))
    where
      by : (eqb a 0 ≡ true) ⊎ (eqb a 0 ≡ false) → (eqb a 255 ≡ true) ⊎ (eqb a 255 ≡ false) → laid_of k a c d ≡ 255
      by (inl z) f = laid_clear (eqb-true a 0 z) ∙ opaque
      by (inr z) (inl f) = let e = eqb-true a 255 f in laid_full e ∙ own ∙ e
      by (inr z) (inr f) = between (eqb-false a 0 z) (eqb-false a 255 f) ∙ simp (eq-eqb k alpha_lane here)

-- ---- one formula for every alpha
module _ (k a c d : ℕ) (hc : c ≤ 255) (hd : d ≤ 255) where
  pub colour_laid : (k ≡ alpha_lane → ⊥) → laid_of k a c d ≡ blended a c d
  colour_laid other = by (test (eqb a 0)) (test (eqb a 255))
    where
      by : (eqb a 0 ≡ true) ⊎ (eqb a 0 ≡ false) → (eqb a 255 ≡ true) ⊎ (eqb a 255 ≡ false) → laid_of k a c d ≡ blended a c d
      by (inl z) f = let e = eqb-true a 0 z in laid_clear k a c d e ∙ sym (ap (λ (t : ℕ). blended t c d) e ∙ blended_clear c d hc hd)
      by (inr z) (inl f) = let e = eqb-true a 255 f in laid_full k a c d e ∙ sym (ap (λ (t : ℕ). blended t c d) e ∙ blended_opaque c d hc hd)
      by (inr z) (inr f) = between k a c d (eqb-false a 0 z) (eqb-false a 255 f) ∙ simp (ne_eqb k alpha_lane other)

-- ---- as the code sums
pub sum_is : (a c d x y : ℕ) → x ≡ scale_colour c (matte_factor a) → y ≡ scale_colour d (matte_factor (255 - a)) → x + y ≡ blended a c d
unfolding blended matted
sum_is a c d x y e f = rw (e, f) refl

pub sum_most : (a c d x y : ℕ) → a ≤ 255 → c ≤ 255 → d ≤ 255 → x ≡ scale_colour c (matte_factor a) → y ≡ scale_colour d (matte_factor (255 - a)) → x + y ≤ 255
sum_most a c d x y ha hc hd e f = omega (arith, sum_is a c d x y e f, blended_most a c d ha hc hd)
