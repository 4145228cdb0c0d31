-- The loop of `Forming`. Assumes nothing.
use Rattle.group_start.proofs.Forming.{Forming}
use Rattle.group_start.proofs.group_of.Given as goal

abbrev pub invariant-loop-i : goal.invariant-loop-i
invariant-loop-i l = Forming l.plans l.n l.g l.i
