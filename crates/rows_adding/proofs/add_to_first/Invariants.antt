-- `add_to_first`: the first k values are sums of what stood there and in the second half, the rest is as it was. Assumes nothing.
use Rattle.std.proofs.Common.{ℕ, ◌+◌, List, get_or}
use Rattle.arithmetic.specs.Word.{wrap_add}
use Rattle.arithmetic.proofs.Stores.{Stored}
use Rattle.rows_adding.proofs.add_to_first.Given as goal

-- the sum at place x
abbrev pub summed : ℕ → List ℕ → ℕ → ℕ
summed w work x = wrap_add (get_or work x 0) (get_or work (w + x) 0)

abbrev pub invariant-loop-k : goal.invariant-loop-k
invariant-loop-k l = Stored (summed l.w l.initial.work) l.initial.work l.work l.w l.k
