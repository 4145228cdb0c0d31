-- `part_start`: the loop of `Summing`. Assumes nothing.
use Rattle.group_tests.proofs.Summing.{Summing}
use Rattle.group_tests.proofs.part_start.Given as goal

abbrev pub invariant-loop-i : goal.invariant-loop-i
invariant-loop-i l = Summing l.g l.at l.i
