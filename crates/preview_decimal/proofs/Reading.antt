-- A text read digit by digit: what is read so far, and the three ways it ends. A byte that is no digit spoils every longer beginning, and a longer
-- beginning stands for no smaller number, so that a test of the first i bytes decides the whole text. Assumes nothing.
use Prim.Native.Nat.{ℕ, zero, suc, ◌+◌, ◌*◌, ◌≤◌, ◌<◌, min}
use mathlib.Core.Path.{◌≡◌, refl, ◌∙◌, ap}
use mathlib.Core.Bool.{Bool, true, false, cond}
use mathlib.Core.List.{List}
use native.Mathlib.Omega.{arith}
use native.Mathlib.Nat.{add-suc, add-zero, le_dest}
use native.Mathlib.Numerals.{add-one}
use lib.ListN.{length, get_or}
use borrow.Author.Tests.{ne_eqb, lt-ltb, le-ltb}
use Rattle.std.proofs.Common.{Some, None}
use Rattle.preview_decimal.specs.Decimal.{is_digit, digit_of, digits, value, none, decimal, decimal_value}

digits_next : (text : List ℕ) (k : ℕ) (b : Bool) → digits text k ≡ true → is_digit (get_or text k 0) ≡ b → digits text (k + 1) ≡ b
unfolding digits
digits_next text k b e f = rw add-one (rw e f)

value_next : (text : List ℕ) (k : ℕ) → value text (k + 1) ≡ 10 * value text k + digit_of (get_or text k 0)
unfolding value
value_next text k = rw add-one refl

digits_lost : (text : List ℕ) (k d : ℕ) → digits text k ≡ false → digits text (k + d) ≡ false
unfolding digits
digits_lost text k zero e = ap (digits text) (add-zero k) ∙ e
digits_lost text k (suc d) e = rw (add-suc k d) (rw (digits_lost text k d e) refl)

value_grows : (text : List ℕ) (k d : ℕ) → value text k ≤ value text (k + d)
unfolding value
value_grows text k zero = omega (arith, ap (value text) (add-zero k))
value_grows text k (suc d) = rw (add-suc k d) (omega (arith, value_grows text k d))

-- the first i bytes are digits and stand for v, which fits
pub record Read (text : List ℕ) (v i : ℕ) : Type 0 where
  pub all : digits text i ≡ true
  pub so_far : v ≡ value text i
  pub small : v < none
  pub within : i ≤ length text

pub read_first : (text : List ℕ) → Read text 0 0
unfolding digits value
read_first text = record { all = refl; so_far = refl; small = omega arith; within = omega arith }

-- the number as the program has it
pub none_told : (text : List ℕ) → none ≡ decimal text → None ≡ decimal_value text
none_told text e = simp (le-ltb (decimal text) none (omega (arith, e)))

pub number_told : (text : List ℕ) (v : ℕ) → v < none → v ≡ decimal text → Some v ≡ decimal_value text
number_told text v s e = simp (lt-ltb (decimal text) none (omega (arith, e, s))) (ap Some e)

module _ {text : List ℕ} {v i : ℕ} (r : Read text v i) where
  pub read_turn : i < length text → is_digit (get_or text i 0) ≡ true → 10 * v + digit_of (get_or text i 0) < none → Read text (10 * v + digit_of (get_or text i 0)) (i + 1)
  read_turn l d s =
      record { all = digits_next text i true r.all d; so_far = omega (arith, r.so_far, value_next text i); small = s; within = omega arith }

  -- a byte that is no digit
  pub read_bad : i < length text → is_digit (get_or text i 0) ≡ false → None ≡ decimal_value text
  read_bad l d =
      let (x, e) = le_dest l in
      let lost : digits text (length text) ≡ false = ap (digits text) (omega arith) ∙ digits_lost text (i + 1) x (digits_next text i false r.all d) in
      none_told text (simp (ne_eqb (length text) 0 (λ z. omega arith), lost))

  -- too large with the next digit
  pub read_large : i < length text → none ≤ 10 * v + digit_of (get_or text i 0) → None ≡ decimal_value text
  read_large l big =
      let (x, e) = le_dest l in
      let grown : value text (i + 1) ≤ value text (length text) = omega (arith, value_grows text (i + 1) x, ap (value text) {x = i + 1 + x} {y = length text} (omega arith)) in
      let cut : min (value text (length text)) none ≡ none = omega (arith, grown, value_next text i, r.so_far) in
      none_told text (simp (ne_eqb (length text) 0 (λ z. omega arith), cut, same (digits text (length text))))
    where
      same : (b : Bool) → cond b none none ≡ none
      same true = refl
      same false = refl

  pub read_done : length text ≤ i → (length text ≡ 0 → ⊥) → Some v ≡ decimal_value text
  read_done l full =
      let whole : length text ≡ i = omega (arith, r.within) in
      let fits : min (value text i) none ≡ v = omega (arith, r.so_far, r.small) in
      number_told text v r.small (simp (whole, ne_eqb i 0 (λ z. full (whole ∙ z)), r.all, fits))
