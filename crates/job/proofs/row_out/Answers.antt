-- The row is due, so the layer below refuses nothing; its flag joins the record's. Assumes nothing.
use mathlib.Core.Bool.{Bool, ◌||◌}
use mathlib.Core.Path.{ap, ◌∙◌}
use Rattle.job.proofs.RowOut.{row_out, flag_out, work_out}
use Rattle.job.proofs.row_out.Goals as goal

pub returns : goal.returns
returns c =
    let a = c.args in
    let made = rw c.row_form-form.ensures at c.take_row-made.ensures in
    let row = row_out a.j a.out.now a.work.now (c.requires) _ made.out in
    let flag = flag_out a.j a.out.now a.work.now (c.requires) _ made.flag in
    let work = work_out a.j a.out.now a.work.now (c.requires) _ made.work in
    record {
      flag = c.flag_after.ensures ∙ ap (λ (f : Bool). a.j.flag || f) flag;
      out = row;
      work = work;
    }
