-- `lane_sum`: the invariant is `Summing`; the pixels that make no four are added one by one. Assumes nothing.
use Rattle.std.proofs.Common.{refl, arith}
use Rattle.rows_planes.proofs.Summing.{summing_first, summing_inside, summing_one, summing_three, summing_four, summing_done}
use Rattle.rows_planes.proofs.lane_sum.Goals as goal

pub loop-i-init : goal.loop-i-init
loop-i-init c = summing_first c.requires

pub bounds-row-p-in-loop-i : goal.bounds-row-p-in-loop-i
bounds-row-p-in-loop-i c = omega (arith, summing_inside c.requires c.loop-i.invariant 1 (omega arith))

pub bounds-row-p-in-loop-i-2 : goal.bounds-row-p-in-loop-i-2
bounds-row-p-in-loop-i-2 c = omega (arith, summing_inside c.requires c.loop-i.invariant 2 (omega arith))

pub bounds-row-p-in-loop-i-3 : goal.bounds-row-p-in-loop-i-3
bounds-row-p-in-loop-i-3 c = omega (arith, summing_inside c.requires c.loop-i.invariant 3 (omega arith))

pub loop-i-preserved : goal.loop-i-preserved
loop-i-preserved c = summing_four c.requires _ _ _ _ c.loop-i.invariant c.loop-i-test.true refl refl refl refl

pub returns-then-count-i-2 : goal.returns-then-count-i-2
returns-then-count-i-2 c = summing_done c.requires (summing_one c.requires c.loop-i.invariant _ (omega arith) refl) c.if-count-i-2.true

pub bounds-row-p-3 : goal.bounds-row-p-3
bounds-row-p-3 c = omega (arith, summing_inside c.requires c.loop-i.invariant 1 (omega arith))

pub returns-then-count-i-3 : goal.returns-then-count-i-3
returns-then-count-i-3 c =
    let one = summing_one c.requires c.loop-i.invariant _ (omega arith) refl in
    summing_done c.requires (summing_one c.requires one _ (omega arith) refl) (omega (arith, c.if-count-i-3.true))

pub bounds-row-p-4 : goal.bounds-row-p-4
bounds-row-p-4 c = omega (arith, summing_inside c.requires c.loop-i.invariant 2 (omega arith))

pub returns : goal.returns
returns c = summing_three c.requires _ _ _ c.loop-i.invariant c.loop-i-test.false c.if-count-i-3.false refl refl refl
