-- The invariant: what holds before each line; each way out is a law of what follows. Assumes nothing.
use Prim.Native.Nat.{◌-◌}
use lib.ListN.{length}
use Rattle.pam_header.proofs.Going.{Going}
use Rattle.pam_header.proofs.pam_header.Given as goal

abbrev pub invariant-loop-tail : goal.invariant-loop-tail
invariant-loop-tail l = Going l.input l.t l.start

abbrev pub decreases-loop-tail : goal.decreases-loop-tail
decreases-loop-tail l = length l.input - l.start
