-- A number in decimal is all digits, a word, no end of a line; and stands for itself. Assumes nothing.
use Prim.Native.Nat.{ℕ, ◌+◌, ◌*◌, ◌/◌, ◌%◌, ◌<◌}
use mathlib.Core.Path.{◌≡◌, sym, ◌∙◌}
use mathlib.Core.Bool.{true}
use mathlib.Core.List.{List, [], ◌∷◌}
use native.Mathlib.Omega.{arith}
use lib.ListN.{length}
use borrow.Author.Tests.{eq-eqb, ne_eqb, le-leb, lt-leb}
use Rattle.preview_decimal.specs.Decimal.{digit_of, digits, value}
use Rattle.pam_text.specs.declared.Class.{Class}
use Rattle.pam_text.specs.declared.Class.TheVariants.{Inside, Solid, Digit}
use Rattle.pam_text.specs.Text.{is_of, run_length}
use Rattle.pam_text.proofs.Texts.{Whole, whole_nil, whole_cons, all_digits}
use Rattle.pam_decimal.specs.Decimal.{digit_at, decimal_of}
use Rattle.pam_decimal.proofs.Decimals.{one, two, three, four, five, by_digits}

-- ---- every digit is of the class
module _ (k : Class) (ok : (x : ℕ) → is_of k (48 + x % 10) ≡ true) (n : ℕ) where
  add : (p : ℕ) (s : List ℕ) → Whole k s → Whole k (digit_at n p ∷ s)
  add p s w = whole_cons k (digit_at n p) s (ok (n / p)) w

  w1 : Whole k (one n)
  w1 = add 1 [] (whole_nil k)

  w2 : Whole k (two n)
  w2 = add 10 (one n) w1

  w3 : Whole k (three n)
  w3 = add 100 (two n) w2

  w4 : Whole k (four n)
  w4 = add 1000 (three n) w3

  whole : Whole k (decimal_of n)
  whole = by_digits n (Whole k) (λ h. w1) (λ l h. w2) (λ l h. w3) (λ l h. w4) (λ l. add 10000 (four n) w4)

pub decimal_inside : (n : ℕ) → Whole Inside (decimal_of n)
decimal_inside n = whole Inside (λ x. simp (ne_eqb (48 + x % 10) 10 (λ z. omega (arith, z)))) n

pub decimal_solid : (n : ℕ) → Whole Solid (decimal_of n)
decimal_solid n = whole Solid solid n
  where
    solid : (x : ℕ) → is_of Solid (48 + x % 10) ≡ true
    solid x =
        simp (
          ne_eqb (48 + x % 10) 9 (λ z. omega (arith, z)),
          ne_eqb (48 + x % 10) 32 (λ z. omega (arith, z)),
          le-leb 11 (48 + x % 10) (omega arith),
          lt-leb (48 + x % 10) 13 (omega arith),
        )

pub decimal_digits : (n : ℕ) → digits (decimal_of n) (length (decimal_of n)) ≡ true
decimal_digits n =
    let all = whole Digit (λ x. simp (le-leb 48 (48 + x % 10) (omega arith), le-leb (48 + x % 10) 57 (omega arith))) n in
    sym (all_digits (decimal_of n)) ∙ eq-eqb (run_length Digit (decimal_of n)) (length (decimal_of n)) all

-- ---- and the number is the one that was written
digit_back : (x : ℕ) → digit_of (48 + x % 10) ≡ x % 10
digit_back x = omega arith

five_places : (n : ℕ) → n < 100000 → 10000 * (n / 10000 % 10) + 1000 * (n / 1000 % 10) + 100 * (n / 100 % 10) + 10 * (n / 10 % 10) + n / 1 % 10 ≡ n
five_places n h =
    gather (n / 10) (n / 100) (n / 1000) (n / 10000) (n / 1 % 10) (n / 10 % 10) (n / 100 % 10) (n / 1000 % 10) (n / 10000 % 10) (omega arith) (omega arith) (omega arith) (omega arith) (omega arith)
  where
    gather : (a b c d v x y z u : ℕ) → 10 * a + v ≡ n → 10 * b + x ≡ a → 10 * c + y ≡ b → 10 * d + z ≡ c → u ≡ d → 10000 * u + 1000 * z + 100 * y + 10 * x + v ≡ n
    gather a b c d v x y z u p q r s t = omega arith

module _ (n : ℕ) where
  abbrev Back : List ℕ → Type 0
  Back l = value l (length l) ≡ n

  back1 : n < 10 → Back (one n)
  unfolding value
  back1 h = omega (arith, digit_back (n / 1))

  back2 : n < 100 → Back (two n)
  unfolding value
  back2 h = rw (digit_back (n / 10)) (rw (digit_back (n / 1)) (omega arith))

  back3 : n < 1000 → Back (three n)
  unfolding value
  back3 h =
      let z : n / 1000 % 10 ≡ 0 = omega arith in
      let y : n / 10000 % 10 ≡ 0 = omega arith in
      rw (digit_back (n / 100)) (rw (digit_back (n / 10)) (rw (digit_back (n / 1)) (omega (arith, five_places n (omega arith), z, y))))

  back4 : n < 10000 → Back (four n)
  unfolding value
  back4 h =
      let y : n / 10000 % 10 ≡ 0 = omega arith in
      rw (digit_back (n / 1000)) (rw (digit_back (n / 100)) (rw (digit_back (n / 10)) (rw (digit_back (n / 1)) (omega (arith, five_places n (omega arith), y)))))

  back5 : n < 100000 → Back (five n)
  unfolding value
  back5 h = rw (digit_back (n / 10000)) (rw (digit_back (n / 1000)) (rw (digit_back (n / 100)) (rw (digit_back (n / 10)) (rw (digit_back (n / 1)) (omega (arith, five_places n h))))))

  pub decimal_value : n < 100000 → value (decimal_of n) (length (decimal_of n)) ≡ n
  decimal_value m = by_digits n Back back1 (λ l h. back2 h) (λ l h. back3 h) (λ l h. back4 h) (λ l. back5 m)
