-- `grow_lane`: column after column by differences, by the laws of LaneRows. Assumes nothing.
use Rattle.std.proofs.Common.{arith}
use Rattle.rows_widening.proofs.LaneRows.{falling_first, falling_room, falling_on, falling_over, falling_same, falling_done}
use Rattle.rows_widening.proofs.grow_lane.Goals as goal

pub overflow_sub-span : goal.overflow_sub-span
overflow_sub-span c = omega (arith, c.requires.row_asks.m_pos)

pub overflow_cast-span : goal.overflow_cast-span
overflow_cast-span c = omega (arith, c.requires.row_asks.m_small)

pub overflow_sub-step : goal.overflow_sub-step
overflow_sub-step c = omega (arith, c.requires.row_asks.n_pos)

pub overflow_cast-step : goal.overflow_cast-step
overflow_cast-step c = omega (arith, c.requires.row_asks.n_small)

pub byte-left-requires : goal.byte-left-requires
byte-left-requires c = omega (arith, c.requires.row_asks.n_pos, c.requires.row_asks.whole)

pub byte-right-requires : goal.byte-right-requires
byte-right-requires c = omega (arith, c.requires.lt_n.0, c.requires.row_asks.whole)

pub loop-acc-init : goal.loop-acc-init
loop-acc-init c =
    falling_first c.requires.row_asks c.requires.lt_n c.byte-left.ensures.is c.byte-right.ensures.is c.between-value.ensures c.fall_of-fall.ensures

pub bounds-half-j : goal.bounds-half-j
bounds-half-j c =
    falling_room c.requires.row_asks c.requires.lt_n c.loop-acc.invariant

pub overflow_add-j : goal.overflow_add-j
overflow_add-j c =
    omega (arith, c.loop-acc.invariant.below, c.requires.row_asks.m_small)

pub loop-acc-smaller-then-acc-step : goal.loop-acc-smaller-then-acc-step
loop-acc-smaller-then-acc-step c = omega (arith, c.loop-acc.invariant.below)

pub loop-acc-preserved-then-acc-step : goal.loop-acc-preserved-then-acc-step
loop-acc-preserved-then-acc-step c =
    falling_on c.requires.row_asks c.requires.lt_n c.loop-acc.invariant c.if-acc-step.true c.minus-value.ensures

pub overflow_add-x : goal.overflow_add-x
overflow_add-x c =
    omega (arith, c.loop-acc.invariant.inside, c.requires.row_asks.n_small)

pub overflow_add-acc : goal.overflow_add-acc
overflow_add-acc c =
    omega (arith, c.loop-acc.invariant.most, c.requires.row_asks.m_small)

pub overflow_sub-acc-in-loop-acc : goal.overflow_sub-acc-in-loop-acc
overflow_sub-acc-in-loop-acc c =
    omega (arith, c.requires.lt_n.1)

pub overflow_add-x-in-loop-acc : goal.overflow_add-x-in-loop-acc
overflow_add-x-in-loop-acc c =
    omega (arith, c.loop-acc.invariant.inside, c.requires.row_asks.n_small)

pub byte-next-requires : goal.byte-next-requires
byte-next-requires c =
    omega (arith, c.if-x-n.false, c.requires.row_asks.whole)

pub overflow_sub-span-in-loop-acc : goal.overflow_sub-span-in-loop-acc
overflow_sub-span-in-loop-acc c =
    omega (arith, c.if-acc-step.false)

pub overflow_add-x-in-loop-acc-2 : goal.overflow_add-x-in-loop-acc-2
overflow_add-x-in-loop-acc-2 c =
    omega (arith, c.loop-acc.invariant.inside, c.requires.row_asks.n_small)

pub loop-acc-smaller : goal.loop-acc-smaller
loop-acc-smaller c = omega (arith, c.loop-acc.invariant.below)

pub loop-acc-preserved : goal.loop-acc-preserved
loop-acc-preserved c =
    falling_over c.requires.row_asks c.requires.lt_n c.loop-acc.invariant c.if-acc-step.false c.if-x-n.false c.byte-next.ensures.is c.between-value-in-loop-acc.ensures c.fall_of-fall-in-loop-acc.ensures

pub shape_of-half : goal.shape_of-half
shape_of-half c =
    falling_same c.requires.row_asks c.requires.lt_n c.loop-acc.invariant

pub returns : goal.returns
returns c =
    falling_done c.requires.row_asks c.requires.lt_n c.loop-acc.invariant c.if-acc-step.false c.if-x-n.true
