-- The distance law (SCOPE, "Exact mean"): under the premise every scaled byte is less than two levels off the exact mean over the whole crop.
-- Why: one row's value is close to the exact sum of its pixels (Columns), and the byte made of such values is near their mean, whether the height
-- shrinks (HeightShrinks) or grows (HeightGrows). Assumes nothing.
use Prim.Native.Nat.{ℕ, ◌*◌, ◌≤◌, ◌<◌}
use mathlib.Core.Logic.{◌⊎◌, inl, inr}
use native.Mathlib.Omega.{arith}
use Rattle.arithmetic.specs.Weight.{span}
use Rattle.arithmetic.proofs.Orders.{le_or_lt}
use Rattle.arithmetic.proofs.Weights.{span_shrink, span_grow}
use Rattle.rows.specs.Column.{value}
use Rattle.rows.specs.Closed.{scaled}
use Rattle.rows_laws.specs.Mean.{total, exact_sum, Near, Premise}
use Rattle.rows_laws.proofs.Close.{Close}
use Rattle.rows_laws.proofs.Columns.{exact, slack, slack_small, span_most, value_close, exact_range}
use Rattle.rows_laws.proofs.HeightShrinks.{distance_down}
use Rattle.rows_laws.proofs.HeightGrows.{distance_up}

-- crop n by h, target m by g; p c i is the matted byte of crop row c, pixel i
pub distance : (n m h g : ℕ) (p : ℕ → ℕ → ℕ) (j y : ℕ) → 0 < n → 0 < h → n ≤ 16384 → m ≤ 16384 → g ≤ 16384 → j < m → y < g → ((c i : ℕ) → c < h → i < n → p c i ≤ 255) → Premise (span n m) h g → Near (scaled n m h g p j y) (exact_sum n m h g p j y) (total n m h g)
unfolding scaled exact_sum total
distance n m h g p j y pos-n pos-h most-n most-m most-g in-m in_g bytes premise = by (le_or_lt g h)
  where
    near : (c : ℕ) → c < h → Close (slack n m) (value (p c) n m j) (exact (p c) n m j)
    near c l = value_close (p c) n m j pos-n most-m in-m (λ i k. bytes c i l k)

    range : (c : ℕ) → c < h → exact (p c) n m j ≤ 255 * span n m
    range c l = exact_range (p c) n m j pos-n most-m in-m (λ i k. bytes c i l k)

    by : (g ≤ h) ⊎ (h < g) → Near (scaled n m h g p j y) (exact_sum n m h g p j y) (total n m h g)
    by (inl low) =
        rw (span_shrink h g low) (distance_down h g y (λ c. value (p c) n m j) (λ c. exact (p c) n m j) (span n m) (slack n m) (omega arith) low in_g most-g (span_most n m most-n most-m) (slack_small n m pos-n) (premise low) near range)
    by (inr high) =
        rw (span_grow h g high) (distance_up h g y (λ c. value (p c) n m j) (λ c. exact (p c) n m j) (span n m) (slack n m) pos-h high in_g (span_most n m most-n most-m) (slack_small n m pos-n) near range)
