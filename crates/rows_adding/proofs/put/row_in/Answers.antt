-- `row_in`: the half is lent as a part of the work rows and comes back; then the halves are added or not. Assumes nothing.
use Rattle.std.proofs.Common.{arith}
use Rattle.rows_adding.proofs.Putting.{at_low, row_next, row_grows, row_adds}
use Rattle.rows_adding.proofs.put.row_in.Goals as goal

pub offset_bounds-work-at : goal.offset_bounds-work-at
offset_bounds-work-at c =
    let a = c.args in
    omega (arith, at_low a.form a.crop a.target a.c a.row.now a.work.now (c.requires) c.half_for-at.result (rw c.lanes.ensures at c.half_for-at.ensures), c.well_formed.1.1.1.1.1.0.1)

pub slice_bounds-import_in-count : goal.slice_bounds-import_in-count
slice_bounds-import_in-count c =
    let a = c.args in
    omega (arith, at_low a.form a.crop a.target a.c a.row.now a.work.now (c.requires) c.half_for-at.result (rw c.lanes.ensures at c.half_for-at.ensures))

pub slice_bounds-import_in-start : goal.slice_bounds-import_in-start
slice_bounds-import_in-start c =
    let a = c.args in
    omega (arith, at_low a.form a.crop a.target a.c a.row.now a.work.now (c.requires) c.half_for-at.result (rw c.lanes.ensures at c.half_for-at.ensures))

pub returns-then-crop-target : goal.returns-then-crop-target
returns-then-crop-target c =
    let a = c.args in
    let pre = c.requires in
    let half = c.half_for-at.result in
    let at = rw c.lanes.ensures at c.half_for-at.ensures in
    let next = row_next a.form a.crop a.target a.c a.row.now a.work.now pre half at _ c.import_in.ensures in
    row_grows a.form a.crop a.target a.c a.row.now a.work.now pre half at _ next c.if-crop-target.true

pub returns : goal.returns
returns c =
    let a = c.args in
    let pre = c.requires in
    let half = c.half_for-at.result in
    let at = rw c.lanes.ensures at c.half_for-at.ensures in
    let next = row_next a.form a.crop a.target a.c a.row.now a.work.now pre half at _ c.import_in.ensures in
    row_adds a.form a.crop a.target a.c a.row.now a.work.now pre half at _ next c.if-crop-target.false _ (rw c.lanes.ensures at c.add_halves.ensures.work)
