-- The invariant is `Accepting`; the loop is left at the last row there may be or at the first that makes an output row ready. Assumes nothing.
use mathlib.Core.Path.{◌∙◌}
use native.Mathlib.Omega.{arith}
use Rattle.job.proofs.Views.{offer_went}
use Rattle.job.proofs.Accepting.{accepting_first, in_lent, in_range, next_fed, accepting_full, accepting_ready, next_count, accepting_more}
use Rattle.job.proofs.accept.Goals as goal

pub most_rows-most-requires : goal.most_rows-most-requires
most_rows-most-requires c = let a = c.args in (offer_went a.j a.rows.now a.work.now (c.requires)).rules

pub loop-i-init : goal.loop-i-init
loop-i-init c = let a = c.args in accepting_first a.j a.rows.now a.work.now _ (c.requires) c.most_rows-most.ensures

pub overflow_mul-at : goal.overflow_mul-at
overflow_mul-at c =
    let a = c.args in
    let at = in_lent a.j a.rows.now a.work.now _ (c.requires) c.most_rows-most.ensures c.loop-i.work c.loop-i.i c.loop-i.invariant _ c.row_bytes-stride.ensures in
    omega (arith, at, c.well_formed.1.0.0)

pub overflow_add-j : goal.overflow_add-j
overflow_add-j c =
    let a = c.args in
    omega (arith, in_range a.j a.rows.now a.work.now _ (c.requires) c.most_rows-most.ensures c.loop-i.work c.loop-i.i c.loop-i.invariant)

pub overflow_add-at : goal.overflow_add-at
overflow_add-at c =
    let a = c.args in
    let at = in_lent a.j a.rows.now a.work.now _ (c.requires) c.most_rows-most.ensures c.loop-i.work c.loop-i.i c.loop-i.invariant _ c.row_bytes-stride.ensures in
    omega (arith, at, c.well_formed.1.0.0)

pub slice_bounds-put_source_row-end : goal.slice_bounds-put_source_row-end
slice_bounds-put_source_row-end c =
    let a = c.args in
    let at = in_lent a.j a.rows.now a.work.now _ (c.requires) c.most_rows-most.ensures c.loop-i.work c.loop-i.i c.loop-i.invariant _ c.row_bytes-stride.ensures in
    omega (arith, at, c.well_formed.1.0.0)

pub overflow_add-i : goal.overflow_add-i
overflow_add-i c =
    let a = c.args in
    let pre = c.requires in
    let l = c.loop-i in
    omega (arith, in_range a.j a.rows.now a.work.now _ pre c.most_rows-most.ensures l.work l.i l.invariant)

pub overflow_add-j-in-loop-i : goal.overflow_add-j-in-loop-i
overflow_add-j-in-loop-i c =
    let a = c.args in
    let pre = c.requires in
    let l = c.loop-i in
    omega (arith, in_range a.j a.rows.now a.work.now _ pre c.most_rows-most.ensures l.work l.i l.invariant)

pub loop-i-preserved : goal.loop-i-preserved
loop-i-preserved c =
    let a = c.args in
    let pre = c.requires in
    let l = c.loop-i in
    let most = c.most_rows-most.ensures in
    let put = rw c.row_form-form.ensures at c.put_source_row.ensures.work in
    let fed = next_fed a.j a.rows.now a.work.now _ pre most l.work l.i l.invariant _ c.row_bytes-stride.ensures _ put in
    accepting_more a.j a.rows.now a.work.now _ pre most l.work l.i l.invariant _ fed c.put_source_row.auto.work c.if-i-most.false (rw c.made-made.ensures at c.if-j-made.false)

pub shape_of-work-then-i-most : goal.shape_of-work-then-i-most
shape_of-work-then-i-most c = c.put_source_row.auto.work ∙ c.loop-i.invariant.long

pub returns-then-i-most : goal.returns-then-i-most
returns-then-i-most c =
    let a = c.args in
    let l = c.loop-i in
    let most = c.most_rows-most.ensures in
    let put = rw c.row_form-form.ensures at c.put_source_row.ensures.work in
    let fed = next_fed a.j a.rows.now a.work.now _ (c.requires) most l.work l.i l.invariant _ c.row_bytes-stride.ensures _ put in
    let q = accepting_full a.j a.rows.now a.work.now _ (c.requires) most l.work l.i l.invariant c.if-i-most.true in
    record {
      rows = q;
      work = next_count a.j a.rows.now a.work.now _ (c.requires) most l.work l.i l.invariant _ fed q;
    }

pub shape_of-work-then-j-made : goal.shape_of-work-then-j-made
shape_of-work-then-j-made c = c.put_source_row.auto.work ∙ c.loop-i.invariant.long

pub returns-then-j-made : goal.returns-then-j-made
returns-then-j-made c =
    let a = c.args in
    let l = c.loop-i in
    let most = c.most_rows-most.ensures in
    let put = rw c.row_form-form.ensures at c.put_source_row.ensures.work in
    let fed = next_fed a.j a.rows.now a.work.now _ (c.requires) most l.work l.i l.invariant _ c.row_bytes-stride.ensures _ put in
    let q = accepting_ready a.j a.rows.now a.work.now _ (c.requires) most l.work l.i l.invariant (rw c.made-made.ensures at c.if-j-made.true) in
    record {
      rows = q;
      work = next_count a.j a.rows.now a.work.now _ (c.requires) most l.work l.i l.invariant _ fed q;
    }
