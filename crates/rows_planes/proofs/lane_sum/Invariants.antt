-- `lane_sum`: the invariant is `Summing`; the pixels that make no four are added one by one. Assumes nothing.
use Rattle.std.proofs.Common.{◌-◌}
use Rattle.rows_planes.proofs.Summing.{Summing}
use Rattle.rows_planes.proofs.lane_sum.Given as goal

abbrev pub invariant-loop-i : goal.invariant-loop-i
invariant-loop-i l = Summing l.row l.lanes l.k l.from l.count l.sum l.p l.i

abbrev pub decreases-loop-i : goal.decreases-loop-i
decreases-loop-i l = l.count - l.i
