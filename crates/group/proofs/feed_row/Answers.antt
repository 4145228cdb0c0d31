-- The parts of the jobs so far have the row, the rest is as it was. Assumes nothing.
use mathlib.Core.Path.{◌≡◌}
use native.Mathlib.Omega.{arith}
use Rattle.group.proofs.Feeding.{feeding_first, within, small, fits, feeding_more}
use Rattle.group.proofs.feed_row.Goals as goal

pub loop-i-init : goal.loop-i-init
loop-i-init c = let a = c.args in feeding_first a.g a.s a.row.now a.work.now

pub bounds-g-i : goal.bounds-g-i
bounds-g-i c = within c.requires c.loop-i.invariant (omega arith)

pub overflow_mul-end : goal.overflow_mul-end
overflow_mul-end c = omega (arith, small c.requires c.loop-i.invariant (omega arith) _ c.row_bytes.ensures)

pub overflow_add-end : goal.overflow_add-end
overflow_add-end c = omega (arith, small c.requires c.loop-i.invariant (omega arith) _ c.row_bytes.ensures)

pub offset_bounds-work-at : goal.offset_bounds-work-at
offset_bounds-work-at c = omega (arith, small c.requires c.loop-i.invariant (omega arith) _ c.row_bytes.ensures)

pub slice_bounds-put_source_row-end : goal.slice_bounds-put_source_row-end
slice_bounds-put_source_row-end c = fits c.requires c.loop-i.invariant (omega arith) _ c.row_bytes.ensures

pub loop-i-preserved : goal.loop-i-preserved
loop-i-preserved c =
    let put = rw c.row_form.ensures at c.put_source_row.ensures.work in
    feeding_more c.requires c.loop-i.invariant (omega arith) _ c.row_bytes.ensures _ put

pub shape_of-work : goal.shape_of-work
shape_of-work c = c.loop-i.invariant.long

pub returns : goal.returns
returns c = let e : c.loop-i.i ≡ c.args.g.count = omega arith in rw e at c.loop-i.invariant.work_is
