-- One row's value of column j against the exact weighted sum of its pixels (MATHEMATICS 1): above it by at most a half of m, below it by at most
-- 1026/2048 of m where the width shrinks, and equal to it elsewhere. Hence its range, and that no difference in it is cut off. Why: value and exact sum
-- have the same terms but one, the carry, which is the last pixel's rest rounded (v + X(j-1) = E + carry × m). Assumes nothing.
use Prim.Native.Nat.{ℕ, zero, suc, ◌+◌, ◌*◌, ◌-◌, ◌^◌, ◌≤◌, ◌<◌}
use mathlib.Core.Path.{◌≡◌, sym, ◌∙◌, ap}
use mathlib.Core.Bool.{cond}
use mathlib.Core.Logic.{◌⊎◌, inl, inr}
use native.Mathlib.Omega.{arith}
use native.Mathlib.Nat.{mul-le-mul, mul-le-mul_right, lt_of_mul-lt-mul_right, eq-or-lt_of_le, zero-mul, mul-zero}
use lib.Dec.{leb}
use borrow.Author.Tests.{le-leb, lt-leb}
use Rattle.arithmetic.specs.FixedPoint.{mult, frac}
use Rattle.arithmetic.specs.Sum.{sum}
use Rattle.arithmetic.specs.Weight.{span, shrink_weight, weight}
use Rattle.arithmetic.proofs.Orders.{le_or_lt}
use Rattle.arithmetic.proofs.Quotients.{ceil_low, ceil_high, ceil_le}
use Rattle.arithmetic.proofs.FixedPoints.{mean_high, mean_low}
use Rattle.arithmetic.proofs.Sums.{sum_cong, sum_term, sum_weighted_le}
use Rattle.arithmetic.proofs.Weights.{span_shrink, span_grow, weight_shrink, weight_grow, shrink_sum, weight_total}
use Rattle.rows.proofs.Columns.{value_shrink, value_grow, over_small}
use Rattle.rows_laws.proofs.Close.{Close}
use Rattle.rows.specs.Column.{start, over, last, column_sum, carry, shrink_value, grow_value, value}

-- the exact weighted sum of column j
abbrev pub exact : (ℕ → ℕ) → ℕ → ℕ → ℕ → ℕ
exact p n m j = sum (λ i. weight n m j i * p i) 0 n

-- ---- where columns start: s 0 = 0, s j < s (j+1) and s (j+1) ≤ n
pub start_low : (n m j : ℕ) → 0 < m → j * n ≤ start n m j * m
unfolding start
start_low n m j pos = ceil_low (j * n) m pos

pub start_high : (n m j : ℕ) → 0 < m → start n m j * m < j * n + m
unfolding start
start_high n m j pos = ceil_high (j * n) m pos

pub start_first : (n m : ℕ) → 0 < m → start n m 0 ≡ 0
start_first n m pos =
    let q : start n m 0 * m < 1 * m = omega (arith, start_high n m 0 pos) in
    omega (arith, lt_of_mul-lt-mul_right m q)

pub start_step : (n m j : ℕ) → 0 < m → m ≤ n → start n m j < start n m (suc j)
start_step n m j pos narrow =
    lt_of_mul-lt-mul_right m (omega (arith, start_high n m j pos, start_low n m (suc j) pos))

pub start_within : (n m j : ℕ) → j < m → start n m (suc j) ≤ n
unfolding start
start_within n m j within = ceil_le m (omega arith) (omega (arith, mul-le-mul_right n within))

-- the last pixel reaches into the next column by less than a column's step; by nothing where the width stays
pub over_is : (n m j : ℕ) → 0 < m → over n m j + suc j * n ≡ start n m (suc j) * m
unfolding over
over_is n m j pos = omega (arith, start_low n m (suc j) pos)

pub over_none : (n j : ℕ) → 0 < n → over n n j ≡ 0
over_none n j pos = go (start n n (suc j)) (over n n j) (over_is n n j pos) (over_small n n j pos)
  where
    go : (s r : ℕ) → r + suc j * n ≡ s * n → r < n → r ≡ 0
    go s r e small =
        let l : s * n < suc (suc j) * n = omega arith in
        let k : suc j * n < suc s * n = omega arith in
        let q : s ≡ suc j = omega (arith, lt_of_mul-lt-mul_right n l, lt_of_mul-lt-mul_right n k) in
        omega (arith, ap (λ (t : ℕ). t * n) q)

-- ---- the carry against the rest X that it stands for
-- X of the column before: what its last pixel owes column j
abbrev pub owed : (ℕ → ℕ) → ℕ → ℕ → ℕ → ℕ
owed p n m j = (start n m j * m - j * n) * p (start n m j - 1)

pub owed_first : (p : ℕ → ℕ) (n m : ℕ) → 0 < m → owed p n m 0 ≡ 0
owed_first p n m pos = ap (λ (w : ℕ). w * p (start n m 0 - 1)) (let q : start n m 0 * m - 0 * n ≡ 0 = omega (arith, ap (λ (t : ℕ). t * m) (start_first n m pos)) in q) ∙ zero-mul (p (start n m 0 - 1))

pub owed_next : (p : ℕ → ℕ) (n m j : ℕ) → owed p n m (suc j) ≡ last p n m j * over n m j
unfolding over last
owed_next p n m j = omega arith

-- the last pixel is one of the column's
pub last_byte : (p : ℕ → ℕ) (n m j : ℕ) → m ≤ n → j < m → ((i : ℕ) → i < n → p i ≤ 255) → last p n m j ≤ 255
unfolding last
last_byte p n m j narrow within bytes =
    bytes (start n m (suc j) - 1) (omega (arith, start_step n m j (omega arith) narrow, start_within n m j within))

pub last_in_sum : (p : ℕ → ℕ) (n m j : ℕ) → 0 < m → m ≤ n → last p n m j ≤ column_sum p n m j
unfolding last column_sum
last_in_sum p n m j pos narrow =
    let q : start n m j < start n m (suc j) = start_step n m j pos narrow in
    sum_term p (start n m j) (start n m (suc j) - start n m j) (start n m (suc j) - 1) (omega arith) (omega arith)

mult_zero : (b : ℕ) → mult 0 b ≡ 0
unfolding mult
mult_zero b = omega (arith, zero-mul b)

-- a column that ends with its last pixel leaves nothing
pub carry_none : (p : ℕ → ℕ) (n m j : ℕ) → over n m j ≡ 0 → carry p n m (suc j) ≡ 0
unfolding carry
carry_none p n m j none =
    ap (λ (t : ℕ). mult t (frac 1 m)) (ap (λ (t : ℕ). last p n m j * t) none ∙ mul-zero (last p n m j)) ∙ mult_zero (frac 1 m)

carry_next : (p : ℕ → ℕ) (n m j : ℕ) → carry p n m (suc j) ≡ mult (owed p n m (suc j)) (frac 1 m)
unfolding carry
carry_next p n m j = ap (λ (t : ℕ). mult t (frac 1 m)) (sym (owed_next p n m j))

-- 2 × carry × m ≤ 2 × X + m and 2048 × X ≤ 2048 × carry × m + 1026 × m; for m = 1 carry and X are 0
pub carry_high : (p : ℕ → ℕ) (n m j : ℕ) → 0 < m → 2 * (carry p n m j * m) ≤ 2 * owed p n m j + m
unfolding carry
carry_high p n m zero pos = omega arith
carry_high p n m (suc j) pos = by (eq-or-lt_of_le pos)
  where
    by : (1 ≡ m) ⊎ (1 < m) → 2 * (carry p n m (suc j) * m) ≤ 2 * owed p n m (suc j) + m
    by (inl one) =
        let c : carry p n m (suc j) ≡ 0 = carry_none p n m j (omega (arith, over_small n m j pos)) in
        omega (arith, ap (λ (t : ℕ). t * m) c)
    by (inr more) = rw (carry_next p n m j) (mean_high (owed p n m (suc j)) m more)

pub carry_low : (p : ℕ → ℕ) (n m j : ℕ) → 0 < m → m ≤ n → m ≤ 16384 → j < m → ((i : ℕ) → i < n → p i ≤ 255) → 2048 * owed p n m j ≤ 2048 * (carry p n m j * m) + 1026 * m
carry_low p n m zero pos narrow small within bytes = omega (arith, owed_first p n m pos)
carry_low p n m (suc j) pos narrow small within bytes = by (eq-or-lt_of_le pos)
  where
    by : (1 ≡ m) ⊎ (1 < m) → 2048 * owed p n m (suc j) ≤ 2048 * (carry p n m (suc j) * m) + 1026 * m
    by (inl one) =
        let c : over n m j ≡ 0 = omega (arith, over_small n m j pos) in
        omega (arith, owed_next p n m j, ap (λ (t : ℕ). last p n m j * t) c)
    by (inr more) =
        rw (carry_next p n m j) (mean_low (owed p n m (suc j)) m more small (least (last p n m j) (over n m j) (owed_next p n m j) (last_byte p n m j narrow (omega arith) bytes) (over_small n m j pos)))
      where
        least : (l r : ℕ) → owed p n m (suc j) ≡ l * r → l ≤ 255 → r < m → owed p n m (suc j) ≤ 255 * m
        least l r e hl hr = omega (arith, mul-le-mul {n₁ = l} {m₁ = r} {n₂ = 255} {m₂ = m} hl (omega arith))

-- ---- the width shrinks or stays

-- nothing is cut off
pub shrink_not_cut : (p : ℕ → ℕ) (n m j : ℕ) → 0 < m → m ≤ n → shrink_value p n m j + last p n m j * over n m j ≡ (carry p n m j + column_sum p n m j) * m
unfolding shrink_value
shrink_not_cut p n m j pos narrow = go (last p n m j) (over n m j) (carry p n m j) (column_sum p n m j) (last_in_sum p n m j pos narrow) (over_small n m j pos)
  where
    go : (l r c s : ℕ) → l ≤ s → r < m → (c + s) * m - l * r + l * r ≡ (c + s) * m
    go l r c s hl hr = omega (arith, mul-le-mul {n₁ = l} {m₁ = r} {n₂ = s} {m₂ = m} hl (omega arith))

-- v + X(j-1) = E + carry × m
pub shrink_link : (p : ℕ → ℕ) (n m j : ℕ) → m ≤ n → j < m → shrink_value p n m j + owed p n m j ≡ exact p n m j + carry p n m j * m
unfolding column_sum
shrink_link p n m j narrow within =
    let same : exact p n m j ≡ sum (λ i. shrink_weight n m j i * p i) 0 n =
    sum_cong _ _ 0 n (λ i l u. ap (λ (w : ℕ). w * p i) (weight_shrink n m j i narrow)) in
    let pos : 0 < m = omega arith in
    rw same (go _ _ _ _ _ _ (column_sum p n m j) summed (shrink_not_cut p n m j pos narrow) (owed_next p n m j))
  where
    summed : sum (λ i. shrink_weight n m j i * p i) 0 n + owed p n m (suc j) ≡ owed p n m j + m * column_sum p n m j
    summed = let pos : 0 < m = omega arith in shrink_sum p n m j (start n m j) (start n m (suc j)) n (omega (arith, start_step n m j pos narrow)) (start_within n m j within) (start_low n m j pos) (start_high n m j pos) (start_low n m (suc j) pos) (start_high n m (suc j) pos)

    go : (e o x v c z s : ℕ) → e + x ≡ o + m * s → v + z ≡ (c + s) * m → x ≡ z → v + o ≡ e + c * m
    go e o x v c z s h k q = omega arith

-- where the width stays the value is exact
pub same_exact : (p : ℕ → ℕ) (n j : ℕ) → j < n → value p n n j ≡ exact p n n j
unfolding carry
same_exact p n j within = value_shrink p n n j (omega arith) ∙ by j (shrink_link p n n j (omega arith) within)
  where
    none : (k : ℕ) → over n n k ≡ 0
    none k = over_none n k (omega arith)

    by : (k : ℕ) → shrink_value p n n k + owed p n n k ≡ exact p n n k + carry p n n k * n → shrink_value p n n k ≡ exact p n n k
    by zero link = omega (arith, owed_first p n n (omega arith))
    by (suc k) link =
        omega (arith, owed_next p n n k, ap (λ (t : ℕ). last p n n k * t) (none k), ap (λ (t : ℕ). t * n) (carry_none p n n k (none k)))

-- ---- the width grows: exact
pub grow_exact : (p : ℕ → ℕ) (n m j : ℕ) → n < m → value p n m j ≡ exact p n m j
unfolding grow_value
grow_exact p n m j wide =
    value_grow p n m j wide ∙ sum_cong _ _ 0 n (λ i l u. ap (λ (w : ℕ). w * p i) (sym (weight_grow n m j i wide)))

-- ---- either way

-- m where the width shrinks, else 0: what an error of a value is measured by
unfoldable pub slack : ℕ → ℕ → ℕ
slack n m = cond (leb n m) 0 m

pub slack_none : (n m : ℕ) → n ≤ m → slack n m ≡ 0
unfolding slack
slack_none n m h = simp (le-leb n m h)

pub slack_is : (n m : ℕ) → m < n → slack n m ≡ m
unfolding slack
slack_is n m h = simp (lt-leb n m h)

pub slack_small : (n m : ℕ) → 0 < n → slack n m < span n m
slack_small n m pos = by (le_or_lt n m)
  where
    by : (n ≤ m) ⊎ (m < n) → slack n m < span n m
    by (inr h) = omega (arith, slack_is n m h, span_shrink n m (omega arith))
    by (inl h) = also (eq-or-lt_of_le h)
      where
        also : (n ≡ m) ⊎ (n < m) → slack n m < span n m
        also (inl e) = omega (arith, slack_none n m h, span_shrink n m (omega arith))
        also (inr k) = omega (arith, slack_none n m h, span_grow n m k)

pub span_most : (n m : ℕ) → n ≤ 16384 → m ≤ 16384 → span n m ≤ 16384
span_most n m hn hm = by (le_or_lt m n)
  where
    by : (m ≤ n) ⊎ (n < m) → span n m ≤ 16384
    by (inl h) = omega (arith, span_shrink n m h)
    by (inr h) = omega (arith, span_grow n m h)

module _ (p : ℕ → ℕ) (n m j : ℕ) (pos : 0 < n) (small : m ≤ 16384) (within : j < m) (bytes : (i : ℕ) → i < n → p i ≤ 255) where
  pub value_close : Close (slack n m) (value p n m j) (exact p n m j)
  value_close = by (le_or_lt n m)
    where
      equal : n ≤ m → value p n m j ≡ exact p n m j → Close (slack n m) (value p n m j) (exact p n m j)
      equal h e = omega (arith, slack_none n m h)

      by : (n ≤ m) ⊎ (m < n) → Close (slack n m) (value p n m j) (exact p n m j)
      by (inr h) =
          rw (slack_is n m h, value_shrink p n m j (omega arith)) (go _ _ _ _ (shrink_link p n m j (omega arith) within) (carry_high p n m j (omega arith)) (carry_low p n m j (omega arith) (omega arith) small within bytes))
        where
          go : (v o e c : ℕ) → v + o ≡ e + c * m → 2 * (c * m) ≤ 2 * o + m → 2048 * o ≤ 2048 * (c * m) + 1026 * m → Close m v e
          go v o e c link high low = omega arith
      by (inl h) = also (eq-or-lt_of_le h)
        where
          also : (n ≡ m) ⊎ (n < m) → Close (slack n m) (value p n m j) (exact p n m j)
          also (inl q) = equal h (rw (← q) (same_exact p n j (omega arith)))
          also (inr k) = equal h (grow_exact p n m j k)

  -- ranges
  pub exact_range : exact p n m j ≤ 255 * span n m
  exact_range = rw (← (weight_total n m j pos within)) (sum_weighted_le (weight n m j) p 255 0 n (λ i l u. bytes i (omega arith)))

  pub value_range_511 : 2 * value p n m j ≤ 511 * span n m
  value_range_511 = let c = value_close in omega (arith, exact_range, slack_small n m pos)

  pub value_range : value p n m j ≤ 256 * span n m
  value_range = omega (arith, value_range_511)

  pub value_word : n ≤ 16384 → value p n m j < 2 ^ 32
  value_word h = omega (arith, value_range, span_most n m h small)
