-- `some_clear` meets its contract: each turn ands one more pixel, and the high byte of all is 255 exactly if every alpha so far is. Assumes nothing.
use Rattle.rows_restoring.proofs.OpaqueRows.{Anded}
use Rattle.rows_restoring.proofs.some_clear.Given as goal

abbrev pub invariant-loop-j : goal.invariant-loop-j
invariant-loop-j l = Anded l.out l.all l.j
