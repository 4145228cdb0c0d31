-- All jobs have been fed the rows so far. Assumes nothing.
use Rattle.group.proofs.Feeding.{Rows}
use Rattle.group.proofs.feed_rows.Given as goal

abbrev pub invariant-loop-r : goal.invariant-loop-r
invariant-loop-r l = Rows l.g l.rows l.initial.work l.work l.r
