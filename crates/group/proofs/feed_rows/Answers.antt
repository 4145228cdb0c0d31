-- All jobs have been fed the rows so far. Assumes nothing.
use mathlib.Core.Path.{◌≡◌}
use native.Mathlib.Omega.{arith}
use Rattle.group.proofs.Feeding.{rows_first, row_lent, row_number, row_asks, rows_more}
use Rattle.group.proofs.feed_rows.Goals as goal

pub loop-r-init : goal.loop-r-init
loop-r-init c = let a = c.args in rows_first a.g a.rows.now a.work.now

pub overflow_mul-at : goal.overflow_mul-at
overflow_mul-at c =
    omega (arith, row_lent c.requires.0 c.requires.1 c.loop-r.invariant (omega arith) _ c.row_bytes-stride.ensures, c.well_formed.1.1.0.0)

pub overflow_add-j : goal.overflow_add-j
overflow_add-j c =
    omega (arith, row_number c.requires.0 c.requires.1 c.loop-r.invariant (omega arith) _ c.row_bytes-stride.ensures)

pub overflow_add-at : goal.overflow_add-at
overflow_add-at c =
    omega (arith, row_lent c.requires.0 c.requires.1 c.loop-r.invariant (omega arith) _ c.row_bytes-stride.ensures, c.well_formed.1.1.0.0)

pub slice_bounds-feed_row-end : goal.slice_bounds-feed_row-end
slice_bounds-feed_row-end c =
    row_lent c.requires.0 c.requires.1 c.loop-r.invariant (omega arith) _ c.row_bytes-stride.ensures

pub feed_row-requires : goal.feed_row-requires
feed_row-requires c =
    row_asks c.requires.0 c.requires.1 c.loop-r.invariant (omega arith) _ c.row_bytes-stride.ensures

pub loop-r-preserved : goal.loop-r-preserved
loop-r-preserved c =
    rows_more c.requires.0 c.requires.1 c.loop-r.invariant (omega arith) _ c.row_bytes-stride.ensures _ c.feed_row.auto.work c.feed_row.ensures

pub returns : goal.returns
returns c =
    let e : c.loop-r.r ≡ c.args.c = omega arith in
    rw e at c.loop-r.invariant.work_is
