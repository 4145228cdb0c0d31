-- `part_start`: the loop of `Summing`. Assumes nothing.
use native.Mathlib.Omega.{arith}
use Rattle.group_tests.proofs.Summing.{summing_first, within, half_most, sum_most, summing_more}
use Rattle.group_tests.proofs.part_start.Goals as goal

pub loop-i-init : goal.loop-i-init
loop-i-init c = summing_first c.args.g

pub bounds-g-i : goal.bounds-g-i
bounds-g-i c = omega (arith, within c.args.g c.args.n c.requires c.loop-i.i c.loop-i-test.true)

pub overflow_mul-at : goal.overflow_mul-at
overflow_mul-at c =
    omega (arith, half_most c.args.g c.args.n c.requires c.loop-i.i c.loop-i-test.true _ c.row_bytes.ensures)

pub overflow_add-at : goal.overflow_add-at
overflow_add-at c =
    let v = c.loop-i in
    omega (arith, sum_most c.args.g c.args.n c.requires v.i c.loop-i-test.true v.at v.invariant _ c.row_bytes.ensures)

pub loop-i-preserved : goal.loop-i-preserved
loop-i-preserved c =
    let v = c.loop-i in
    summing_more c.args.g c.args.n c.requires v.i c.loop-i-test.true v.at v.invariant _ c.row_bytes.ensures
