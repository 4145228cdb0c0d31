-- Each record so far counts the rows; the others are as they were. Assumes nothing.
use Rattle.group.proofs.Feeding.{Advancing}
use Rattle.group.proofs.all_more.Given as goal

abbrev pub invariant-loop-i : goal.invariant-loop-i
invariant-loop-i l = Advancing l.fn.g l.c l.g l.i
