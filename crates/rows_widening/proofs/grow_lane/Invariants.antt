-- `grow_lane`: column after column by differences, by the laws of LaneRows. Assumes nothing.
use Rattle.std.proofs.Common.{◌-◌}
use Rattle.rows_widening.proofs.LaneRows.{Falling}
use Rattle.rows_widening.proofs.grow_lane.Given as goal

abbrev pub invariant-loop-acc : goal.invariant-loop-acc
invariant-loop-acc l = Falling l.row l.n l.m l.initial.half l.half l.right l.value l.fall l.x l.acc l.j

abbrev pub decreases-loop-acc : goal.decreases-loop-acc
decreases-loop-acc l = l.m - l.j
