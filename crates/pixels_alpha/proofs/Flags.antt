-- The alpha flag: found at one pixel it stands for all, not found every alpha is 255, and the same alphas give the same flag. Assumes nothing.
use Prim.Native.Nat.{ℕ, zero, suc, ◌+◌, ◌*◌, ◌/◌, ◌≤◌, ◌<◌}
use mathlib.Core.Path.{◌≡◌, refl, ap, ap₂, ◌∙◌}
use mathlib.Core.Bool.{Bool, true, false, not, ◌||◌, or-true}
use mathlib.Core.List.{List}
use mathlib.Core.Logic.{⊎_elim}
use native.Mathlib.Omega.{arith}
use native.Mathlib.Nat.{le_of_suc-le-suc, eq-or-lt_of_le}
use native.Mathlib.Numerals.{add-one}
use lib.Bits.{bit_and, and_le_l, and_le_r}
use lib.Dec.{eqb}
use lib.ListN.{length}
use borrow.Author.Tests.{eq-eqb, ne_eqb}
use Rattle.pixels.proofs.Truths.{neither_true, same_of}
use Rattle.pixels_layout.specs.declared.PixelLayout.{PixelLayout}
use Rattle.pixels.specs.Sizes.{pixel_lanes}
use Rattle.pixels_alpha.specs.Alpha.{some_clear, has_alpha}

-- one alpha that isn't 255
pub clear_at : (a : ℕ → ℕ) (n i : ℕ) → i < n → (a i ≡ 255 → ⊥) → some_clear a n ≡ true
unfolding some_clear
clear_at a zero i h off = absurd (omega arith)
clear_at a (suc n) i h off =
    ⊎_elim
    (λ e. simp (ne_eqb (a n) 255 (rw e at off), or-true))
    (λ lt. simp (clear_at a n i lt off))
    (eq-or-lt_of_le (le_of_suc-le-suc h))

-- no alpha but 255
pub clear_no : (a : ℕ → ℕ) (n : ℕ) → some_clear a n ≡ false → (i : ℕ) → i < n → a i ≡ 255
unfolding some_clear
clear_no a zero e i h = absurd (omega arith)
clear_no a (suc n) e i h =
    let both = neither_true (some_clear a n) (not (eqb (a n) 255)) e in
    let last : i ≡ n → a i ≡ 255 = λ q. ap a q ∙ same_of (a n) 255 both.1 in
    ⊎_elim last (clear_no a n both.0 i) (eq-or-lt_of_le (le_of_suc-le-suc h))

-- two bytes and-ed are 255 exactly if both are
pub and_full : (x y : ℕ) → x ≤ 255 → y ≤ 255 → not (eqb (bit_and x y) 255) ≡ (not (eqb x 255) || not (eqb y 255))
and_full x y hx hy = ⊎_elim (λ p. ⊎_elim (full p) right (eq-or-lt_of_le hy)) left (eq-or-lt_of_le hx)
  where
    full : x ≡ 255 → y ≡ 255 → not (eqb (bit_and x y) 255) ≡ (not (eqb x 255) || not (eqb y 255))
    full p q = rw (p, q)

    left : x < 255 → not (eqb (bit_and x y) 255) ≡ (not (eqb x 255) || not (eqb y 255))
    left l = simp (ne_eqb (bit_and x y) 255 (λ e. omega (arith, and_le_l x y)), ne_eqb x 255 (λ e. omega arith))

    right : y < 255 → not (eqb (bit_and x y) 255) ≡ (not (eqb x 255) || not (eqb y 255))
    right l = simp (ne_eqb (bit_and x y) 255 (λ e. omega (arith, and_le_r x y)), ne_eqb y 255 (λ e. omega arith), or-true)

-- none so far
pub clear_none : (a : ℕ → ℕ) → some_clear a 0 ≡ false
unfolding some_clear
clear_none a = refl

pub clear_next : (a : ℕ → ℕ) (n : ℕ) → some_clear a n ≡ false → a n ≡ 255 → some_clear a (n + 1) ≡ false
unfolding some_clear
clear_next a n e f = rw add-one (simp (e, eq-eqb (a n) 255 f))

pub clear_cong : (a b : ℕ → ℕ) (n : ℕ) → ((i : ℕ) → i < n → a i ≡ b i) → some_clear a n ≡ some_clear b n
unfolding some_clear
clear_cong a b zero h = refl
clear_cong a b (suc n) h =
    ap₂ (λ (x : Bool) (y : ℕ). x || not (eqb y 255)) (clear_cong a b n (λ i l. h i (omega arith))) (h n (omega arith))

-- the flag of a buffer is that of the pixels it holds
pub flag_of : (l : PixelLayout) (s t : List ℕ) (n : ℕ) {r : Bool} → r ≡ has_alpha l s (length s / pixel_lanes) → s ≡ t → length t ≡ pixel_lanes * n → r ≡ has_alpha l t n
flag_of l s t n e same long =
    let q : length t / pixel_lanes ≡ n = omega arith in
    e ∙ ap (λ (u : List ℕ). has_alpha l u (length u / pixel_lanes)) same ∙ ap (has_alpha l t) q
