-- One lane of a column, from what a loop knows where the column starts and ends: with bytes for pixels its value and its carry are those of the definitions.
-- And where the next column stands. Assumes nothing.
use Rattle.std.proofs.Common.{◌≡◌, ℕ, suc, ◌+◌, ◌-◌, ◌*◌, ◌/◌, ◌%◌, ◌^◌, ◌<◌, ◌≤◌, sym, ap, ◌∙◌, mul-le-mul_right, lt_of_mul-lt-mul_right, mul-le-mul_left, arith, lt-ltb, le-ltb}
use Rattle.arithmetic.specs.Word.{wrap_add}
use Rattle.arithmetic.specs.FixedPoint.{mult, frac}
use Rattle.arithmetic.specs.Sum.{sum}
use Rattle.rows.specs.Column as column
use Rattle.rows.specs.Column.{Finished, value}
use Rattle.rows.specs.Inner.NextColumn.{NextAsks, StandsIn, NextIs, next_to, next_over}
use Rattle.rows.proofs.Columns.{value_shrink, value_of, carry_of, carry_byte, lane_column}

-- what a column's end leads to
pub record LaneMade (p : ℕ → ℕ) (n m j v carry : ℕ) : Type 0 where
  pub value_is : v ≡ value p n m j
  pub carry_is : carry ≡ column.carry p n m (suc j)

-- x × m is debt parts past j × n; the column goes from pixel x up to next
module _ (p : ℕ → ℕ) (byte : (i : ℕ) → p i ≤ 255) (n m j x next debt over : ℕ) (shrinks : m ≤ n) (n_small : n ≤ 16384) (debt-small : debt < m) (over_small : over < m)
    (at : x * m ≡ j * n + debt) (made : next * m + debt ≡ x * m + n + over) (more : x < next) where
  pub lane_made : (scale c g l t v c' : ℕ) → scale ≡ frac 1 m → c ≡ column.carry p n m j → g ≡ sum p x (next - x) → l ≡ p (next - 1) → t ≡ wrap_add c g
      → Finished m scale over t l v c' → LaneMade p n m j v c'
  lane_made scale c g l t v c' scale_is c-is g-is l-is t-is f =
      let c-byte : c ≤ 255 = rw c-is (carry_byte p byte n m j (omega arith)) in
      let made-lane = lane_column p byte n m x next debt over shrinks n_small more over_small made scale c g l t v c' c-byte (record { sum_is = g-is; last_is = l-is }) t-is f in
      record {
        value_is =
            value_of p n m j x next debt over debt-small over_small at made c v c-is made-lane.value_is
            ∙ sym (value_shrink p n m j shrinks);
        carry_is =
            carry_of p n m j x next debt over debt-small over_small at made c'
            (made-lane.carry_is ∙ ap (λ (z : ℕ). mult (p (next - 1) * over) z) scale_is);
      }

-- ---- where the next column stands; `to` pixels are used after j columns
module _ {n m each rest to over : ℕ} (a : NextAsks n m each rest to over) where
  pub stands_in : StandsIn n m to over
  stands_in = record { over_small = a.over_small; shrinks = a.shrinks; n_small = a.n_small; to_small = a.to_small }

  pub each_small : each ≤ n
  each_small = omega (arith, a.parts, a.rest_small, mul-le-mul_left each (let pos : 1 ≤ m = omega (arith, a.rest_small) in pos))

  pub next_longer : over < rest → NextIs n m to over to (to + each + 1) (over + m - rest)
  next_longer l = record { goes_on = omega arith; made = omega (arith, a.parts, a.rest_small); over_small = omega (arith, a.rest_small); more = omega arith }

  pub next_even : rest ≤ over → NextIs n m to over to (to + each) (over - rest)
  next_even l = record { goes_on = omega arith; made = omega (arith, a.parts); over_small = omega (arith, a.over_small); more = omega (arith, some) }
    where
      some : 0 < each
      some = lt_of_mul-lt-mul_right m (let below : 0 * m < each * m = omega (arith, a.parts, a.rest_small, a.shrinks) in below)

-- the same in words of 64 bits, where nothing wraps
module _ (n m each rest to over : ℕ) (parts : each * m + rest ≡ n) (small : 0 < m → rest < m) (s : StandsIn n m to over) where
  shared_asks : NextAsks n m each rest to over
  shared_asks = record {
    parts = parts;
    rest_small = small (omega (arith, s.over_small));
    over_small = s.over_small;
    shrinks = s.shrinks;
    n_small = s.n_small;
    to_small = s.to_small;
  }

  word_to : (to + each) % 2 ^ 64 ≡ to + each
  word_to = omega (arith, each_small shared_asks, s.to_small, s.n_small)

  pub shared_longer : over < rest → NextIs n m to over to (((to + each) % 2 ^ 64 + 1) % 2 ^ 64) (((over + m) % 2 ^ 64 + (2 ^ 64 - rest)) % 2 ^ 64)
  shared_longer l =
      let past : ((to + each) % 2 ^ 64 + 1) % 2 ^ 64 ≡ to + each + 1 = omega (arith, word_to, each_small shared_asks, s.to_small, s.n_small) in
      let left : ((over + m) % 2 ^ 64 + (2 ^ 64 - rest)) % 2 ^ 64 ≡ over + m - rest = omega (arith, s.over_small, s.shrinks, s.n_small, shared_asks.rest_small) in
      rw (past, left) (next_longer shared_asks l)

  pub shared_even : rest ≤ over → NextIs n m to over to ((to + each) % 2 ^ 64) (over - rest)
  shared_even l = rw word_to (next_even shared_asks l)

-- and for all numbers
module _ (n m : ℕ) {each rest : ℕ} (each_is : each ≡ n / m) (rest_is : rest ≡ n % m) (to over : ℕ) where
  pub to_longer : {to' : ℕ} → over < rest → to' ≡ (to + each + 1) % 2 ^ 64 → to' ≡ next_to n m to over
  unfolding next_to
  to_longer l e = e ∙ rw (each_is, lt-ltb over (n % m) (rw rest_is at l)) (omega arith)

  pub to_even : {to' : ℕ} → rest ≤ over → to' ≡ (to + each) % 2 ^ 64 → to' ≡ next_to n m to over
  unfolding next_to
  to_even l e = e ∙ rw (each_is, le-ltb over (n % m) (rw rest_is at l)) (omega arith)

  pub over_longer : {over' : ℕ} → over < rest → over' ≡ (over + m + 2 ^ 64 - rest) % 2 ^ 64 → over' ≡ next_over n m over
  unfolding next_over
  over_longer l e = e ∙ rw (← rest_is, lt-ltb over rest l) (omega arith)

  pub over_even : {over' : ℕ} → rest ≤ over → over < 2 ^ 64 → over' ≡ over - rest → over' ≡ next_over n m over
  unfolding next_over
  over_even l small e = e ∙ rw (← rest_is, le-ltb over rest l) (omega arith)

-- no column of m reaches past the row
pub column_inside : (n m j next over : ℕ) → j < m → over < m → next * m ≡ suc j * n + over → next ≤ n
column_inside n m j next over l small e =
    let le : suc j * n ≤ m * n = mul-le-mul_right n l in
    let below : next * m < suc n * m = omega arith in
    omega (arith, lt_of_mul-lt-mul_right m below)
