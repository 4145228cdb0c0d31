-- `grow_lanes`: the invariant is `Growing`. Assumes nothing.
use Rattle.rows_widening.proofs.GrowingRows.{Growing}
use Rattle.rows_widening.proofs.grow_lanes.Given as goal

abbrev pub invariant-loop-j : goal.invariant-loop-j
invariant-loop-j l = Growing l.row l.lanes l.n l.m l.initial.half l.half l.s.x l.s.acc l.j
