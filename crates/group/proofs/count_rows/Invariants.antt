-- None was ready before the last row counted; the loop ends at the last row that there may be or where a job has a row ready. Assumes nothing.
use Rattle.group.proofs.Counted.{Counting}
use Rattle.group.proofs.count_rows.Given as goal

abbrev pub invariant-loop-c : goal.invariant-loop-c
invariant-loop-c l = Counting l.g l.n l.c
