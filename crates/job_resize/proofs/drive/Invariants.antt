-- The loop keeps the job under way and takes one row each turn. Assumes nothing.
use Rattle.job_resize.proofs.Going.{Going}
use Prim.Native.Nat.{◌-◌}
use Rattle.job_resize.proofs.drive.Given as goal

abbrev pub invariant-loop-job : goal.invariant-loop-job
invariant-loop-job l = Going l.initial.job.plan l.pixels l.initial.out l.initial.work l.job l.out l.work

abbrev pub decreases-loop-job : goal.decreases-loop-job
decreases-loop-job l = l.job.plan.target.height - l.job.taken
