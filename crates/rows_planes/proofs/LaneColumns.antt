-- The pixels of a column read by a loop of one lane. Assumes nothing.
use Rattle.std.proofs.Common.{◌≡◌, ℕ, suc, ◌+◌, ◌-◌, ◌<◌, ◌≤◌, sym, ap, ◌∙◌, arith}
use Rattle.arithmetic.specs.Word.{wrap_add}
use Rattle.arithmetic.specs.Sum.{sum}
use Rattle.arithmetic.proofs.Sums.{sum_suc}
use Rattle.rows.specs.Inner.NextColumn.{NextAsks, NextIs}
use Rattle.rows.proofs.NextColumn.{next_longer, next_even}

-- ---- the pixels of a column read by a loop of one lane: `each` of them, and one more where the parts left over do not reach; over' is not yet less the rest
pub record Reads (p : ℕ → ℕ) (n m rest x over carry x' over' total : ℕ) : Type 0 where
  pub total_is : total ≡ wrap_add carry (sum p x (x' - x))
  pub next_is : NextIs n m x over x x' (over' - rest)
  pub reach : rest ≤ over'

module _ (p : ℕ → ℕ) {n m each rest x over : ℕ} (a : NextAsks n m each rest x over) (carry t : ℕ) (t-is : t ≡ wrap_add carry (sum p x each)) where
  pub reads_longer : over < rest → (b total x' over' : ℕ) → b ≡ p (x + each) → total ≡ wrap_add t b → x' ≡ x + each + 1 → over' ≡ over + m → Reads p n m rest x over carry x' over' total
  reads_longer l b total x' over' b-is total_is x-is over_is =
      let count : x + each + 1 - x ≡ suc each = omega arith in
      let sums : sum p x (x' - x) ≡ sum p x each + p (x + each) = ap (λ (z : ℕ). sum p x (z - x)) x-is ∙ ap (sum p x) count ∙ sum_suc p x each in
      record {
        total_is = omega arith;
        next_is = rw (x-is, over_is) (next_longer a l);
        reach = omega (arith, a.rest_small);
      }

  pub reads_even : rest ≤ over → (total x' over' : ℕ) → total ≡ t → x' ≡ x + each → over' ≡ over → Reads p n m rest x over carry x' over' total
  reads_even l total x' over' total_is x-is over_is =
      let count : x + each - x ≡ each = omega arith in
      let sums : sum p x (x' - x) ≡ sum p x each = ap (λ (z : ℕ). sum p x (z - x)) x-is ∙ ap (sum p x) count in
      record {
        total_is = total_is ∙ t-is ∙ ap (wrap_add carry) (sym sums);
        next_is = rw (x-is, over_is) (next_even a l);
        reach = omega arith;
      }
