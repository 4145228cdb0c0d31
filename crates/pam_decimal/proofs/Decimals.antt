-- Numbers in decimal: how many digits there are, and that they are the last of five. Assumes nothing.
use Prim.Native.Nat.{ℕ, ◌-◌, ◌≤◌, ◌<◌}
use mathlib.Core.Path.{◌≡◌, refl, sym, ◌∙◌, ap, subst}
use mathlib.Core.Bool.{Bool, true, false}
use mathlib.Core.List.{List, [], ◌∷◌}
use native.Mathlib.Omega.{arith}
use lib.Dec.{leb}
use lib.ListN.{length, drop}
use borrow.Author.Tests.{le-leb, lt-leb, leb-true, leb-false}
use Rattle.pam_decimal.specs.Decimal.{digit_at, decimal_of}

-- the last digits, of five
abbrev pub one : ℕ → List ℕ
one n = digit_at n 1 ∷ []

abbrev pub two : ℕ → List ℕ
two n = digit_at n 10 ∷ one n

abbrev pub three : ℕ → List ℕ
three n = digit_at n 100 ∷ two n

abbrev pub four : ℕ → List ℕ
four n = digit_at n 1000 ∷ three n

abbrev pub five : ℕ → List ℕ
five n = digit_at n 10000 ∷ four n

module _ (n : ℕ) where
  pub one_is : n < 10 → decimal_of n ≡ one n
  unfolding decimal_of
  one_is h = simp (lt-leb 10000 n (omega arith), lt-leb 1000 n (omega arith), lt-leb 100 n (omega arith), lt-leb 10 n (omega arith))

  pub two_is : 10 ≤ n → n < 100 → decimal_of n ≡ two n
  unfolding decimal_of
  two_is l h = simp (lt-leb 10000 n (omega arith), lt-leb 1000 n (omega arith), lt-leb 100 n (omega arith), le-leb 10 n l)

  pub three_is : 100 ≤ n → n < 1000 → decimal_of n ≡ three n
  unfolding decimal_of
  three_is l h = simp (lt-leb 10000 n (omega arith), lt-leb 1000 n (omega arith), le-leb 100 n l, le-leb 10 n (omega arith))

  pub four_is : 1000 ≤ n → n < 10000 → decimal_of n ≡ four n
  unfolding decimal_of
  four_is l h = simp (lt-leb 10000 n h, le-leb 1000 n l, le-leb 100 n (omega arith), le-leb 10 n (omega arith))

  pub five_is : 10000 ≤ n → decimal_of n ≡ five n
  unfolding decimal_of
  five_is l = simp (le-leb 10000 n l, le-leb 1000 n (omega arith), le-leb 100 n (omega arith), le-leb 10 n (omega arith))

  -- what holds of one digit to five holds of a number's digits
  module _ (P : List ℕ → Type 0) (p1 : n < 10 → P (one n)) (p2 : 10 ≤ n → n < 100 → P (two n)) (p3 : 100 ≤ n → n < 1000 → P (three n)) (p4 : 1000 ≤ n → n < 10000 → P (four n)) (p5 : 10000 ≤ n → P (five n)) where
    by : (a b c d : Bool) → leb 10 n ≡ a → leb 100 n ≡ b → leb 1000 n ≡ c → leb 10000 n ≡ d → P (decimal_of n)
    by false b c d ea eb ec ed = let h = leb-false 10 n ea in subst P (sym (one_is h)) (p1 h)
    by true false c d ea eb ec ed =
        let l = leb-true 10 n ea in
        let h = leb-false 100 n eb in
        subst P (sym (two_is l h)) (p2 l h)
    by true true false d ea eb ec ed =
        let l = leb-true 100 n eb in
        let h = leb-false 1000 n ec in
        subst P (sym (three_is l h)) (p3 l h)
    by true true true false ea eb ec ed =
        let l = leb-true 1000 n ec in
        let h = leb-false 10000 n ed in
        subst P (sym (four_is l h)) (p4 l h)
    by true true true true ea eb ec ed = let l = leb-true 10000 n ed in subst P (sym (five_is l)) (p5 l)

    pub by_digits : P (decimal_of n)
    by_digits = by (leb 10 n) (leb 100 n) (leb 1000 n) (leb 10000 n) refl refl refl refl

  -- the last of five
  pub last_digits : (k : ℕ) → k ≡ length (decimal_of n) → drop (5 - k) (five n) ≡ decimal_of n
  last_digits k e = ap (λ (j : ℕ). drop (5 - j) (five n)) e ∙ by_digits (λ (l : List ℕ). drop (5 - length l) (five n) ≡ l) (λ h. refl) (λ l h. refl) (λ l h. refl) (λ l h. refl) (λ l. refl)

  pub some_digits : (1 ≤ length (decimal_of n)) × (length (decimal_of n) ≤ 5)
  some_digits =
      by_digits (λ (l : List ℕ). (1 ≤ length l) × (length l ≤ 5)) (λ h. (omega arith, omega arith)) (λ l h. (omega arith, omega arith)) (λ l h. (omega arith, omega arith)) (λ l h. (omega arith, omega arith)) (λ l. (omega arith, omega arith))

  -- as the program has it
  pub last_of :
      (a b c d e k : ℕ) (tail : List ℕ) → a ≡ digit_at n 10000 → b ≡ digit_at n 1000 → c ≡ digit_at n 100 → d ≡ digit_at n 10 → e ≡ digit_at n 1 → k ≡ length (decimal_of n)
      → tail ≡ drop (5 - k) (a ∷ b ∷ c ∷ d ∷ e ∷ []) → tail ≡ decimal_of n
  last_of a b c d e k tail ea eb ec ed ee ek et =
      let same : a ∷ b ∷ c ∷ d ∷ e ∷ [] ≡ five n = simp (ea, eb, ec, ed, ee) in
      et ∙ ap (drop (5 - k)) same ∙ last_digits k ek
