-- `add_to_first`: the first k values are sums of what stood there and in the second half, the rest is as it was. Assumes nothing.
use Rattle.std.proofs.Common.{◌≡◌, ℕ, ◌+◌, ◌<◌, List, get_or, set, ◌∙◌, ap₂, arith}
use Rattle.arithmetic.specs.Word.{wrap_add}
use Rattle.arithmetic.proofs.Stores.{Stored, none_stored, store, ahead, all_stored}
use Rattle.rows.specs.WorkRows.{added}
use Rattle.rows_adding.proofs.add_to_first.Invariants.{summed}
use Rattle.rows_adding.proofs.add_to_first.Goals as goal

turn : {work₀ work : List ℕ} {w k : ℕ} (v : ℕ) → Stored (summed w work₀) work₀ work w k → k < w → v ≡ wrap_add (get_or work k 0) (get_or work (w + k) 0)
    → Stored (summed w work₀) work₀ (set work k v) w (k + 1)
turn {w = w} {k = k} v i t e = store i t (e ∙ ap₂ (λ (a b : ℕ). wrap_add a b) (ahead i k (omega arith)) (ahead i (w + k) (omega arith)))

pub loop-k-init : goal.loop-k-init
loop-k-init c = none_stored _ (omega (arith, c.requires))

pub loop-k-preserved : goal.loop-k-preserved
loop-k-preserved c = turn c.wrapping_add_u32.result c.loop-k.invariant c.loop-k-test.true c.wrapping_add_u32.ensures.value

pub returns : goal.returns
unfolding added
returns c = all_stored c.loop-k.invariant c.loop-k-test.false
