-- The parts of the jobs so far have the row, the rest is as it was. Assumes nothing.
use Rattle.group.proofs.Feeding.{Feeding}
use Rattle.group.proofs.feed_row.Given as goal

abbrev pub invariant-loop-i : goal.invariant-loop-i
invariant-loop-i l = Feeding l.g l.s l.row l.initial.work l.work l.at l.i
