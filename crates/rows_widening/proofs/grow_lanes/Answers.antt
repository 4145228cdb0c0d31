-- `grow_lanes`: the invariant is `Growing`. Assumes nothing.
use Rattle.std.proofs.Common.{mul-le-mul, arith}
use Rattle.arithmetic.proofs.Stores.{same}
use Rattle.rows_widening.proofs.GrowingRows.{growing_first, growing_stands, growing_right, growing_between, growing_turn, growing_done}
use Rattle.rows_widening.proofs.grow_lanes.Goals as goal

pub overflow_sub-span : goal.overflow_sub-span
overflow_sub-span c = omega (arith, c.requires.row_asks.m_pos)

pub overflow_sub-step : goal.overflow_sub-step
overflow_sub-step c = omega (arith, c.requires.row_asks.n_pos)

pub nonzero_rem-one : goal.nonzero_rem-one
nonzero_rem-one c = c.requires.row_asks.n_pos

pub overflow_add-s : goal.overflow_add-s
overflow_add-s c = omega (arith, c.requires.row_asks.m_small, c.requires.row_asks.n_small)

pub loop-j-init : goal.loop-j-init
loop-j-init c = growing_first c.requires.row_asks

pub next_stand-s-requires : goal.next_stand-s-requires
next_stand-s-requires c = growing_stands c.requires.row_asks c.requires.n_lt_m c.loop-j.invariant c.loop-j-test.true

pub overflow_add-s-in-loop-j : goal.overflow_add-s-in-loop-j
overflow_add-s-in-loop-j c = omega (arith, growing_right c.requires.row_asks c.requires.n_lt_m c.loop-j.invariant c.loop-j-test.true c.next_stand-s.ensures, c.requires.row_asks.n_small)

pub overflow_sub-span-in-loop-j : goal.overflow_sub-span-in-loop-j
overflow_sub-span-in-loop-j c = c.next_stand-s.ensures.small

pub overflow_mul-lanes : goal.overflow_mul-lanes
overflow_mul-lanes c =
    let asks = c.requires.row_asks in
    omega (arith, mul-le-mul {n₁ = c.args.lanes} {m₁ = c.loop-j.j} {n₂ = 4} {m₂ = 16384} asks.lane_count.most (omega (arith, asks.m_small, c.loop-j-test.true)))

pub put_between-requires : goal.put_between-requires
put_between-requires c = growing_between c.requires.row_asks c.requires.n_lt_m c.loop-j.invariant c.loop-j-test.true c.next_stand-s.ensures

pub loop-j-preserved : goal.loop-j-preserved
loop-j-preserved c =
    let asks = c.requires.row_asks in
    let by_width = c.requires.n_lt_m in
    let inv = c.loop-j.invariant in
    let more = c.loop-j-test.true in
    growing_turn asks by_width inv more c.next_stand-s.ensures _ c.put_between.ensures

pub shape_of-half : goal.shape_of-half
shape_of-half c = same c.loop-j.invariant.stored

pub returns : goal.returns
returns c = growing_done c.loop-j.invariant c.loop-j-test.false
