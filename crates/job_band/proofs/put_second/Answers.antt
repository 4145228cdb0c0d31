-- The row comes in as the first of two that one crop row grows to. Assumes nothing.
use Rattle.job_band.proofs.SecondHalf.{second_written}
use Rattle.job_band.proofs.put_second.Goals as goal

pub returns : goal.returns
returns c =
    let args = c.args in
    let pre = c.requires in
    let row-form = c.row_form-form in
    let put-source-row = c.put_source_row in
    second_written args.p args.row.now args.work.now pre _ row-form.ensures _ put-source-row.ensures.work
