-- The invariant is `Accepting`; the loop is left at the last row there may be or at the first that makes an output row ready. Assumes nothing.
use Prim.Native.Nat.{◌-◌}
use Rattle.job.proofs.Accepting.{Accepting}
use Rattle.job.proofs.accept.Given as goal

abbrev pub invariant-loop-i : goal.invariant-loop-i
invariant-loop-i l = Accepting l.j l.rows l.initial.work l.most l.work l.i

abbrev pub decreases-loop-i : goal.decreases-loop-i
decreases-loop-i l = l.most - l.i
