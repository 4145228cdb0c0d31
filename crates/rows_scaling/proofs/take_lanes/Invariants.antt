-- `take_lanes` meets its contract: each turn stores the low byte and a 0. Assumes nothing.
use Rattle.rows_scaling.proofs.ShrinkLanes.{Taken}
use Rattle.std.proofs.Common.{length}
use Rattle.rows_scaling.proofs.take_lanes.Given as goal

abbrev pub invariant-loop-k : goal.invariant-loop-k
invariant-loop-k l = Taken (length l.initial.out) l.initial.work l.initial.out l.work l.out l.k
