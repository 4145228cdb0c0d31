-- `shrink_lanes` meets its contract: each turn stores f and the byte that it leaves; the ratio is below 2^31, so the byte is clamped by signed tests. Assumes nothing.
use Rattle.rows_scaling.proofs.ShrinkLanes.{Shrunk}
use Rattle.std.proofs.Common.{length}
use Rattle.rows_scaling.proofs.shrink_lanes.Given as goal

abbrev pub invariant-loop-k : goal.invariant-loop-k
invariant-loop-k l = Shrunk l.step l.factor.by (length l.initial.out) l.initial.work l.initial.out l.work l.out l.k
