-- A refusal of scaling is handed on; a row that is scaled is finished as its form asks. Assumes nothing.
use Rattle.std.proofs.lemmas.Result.{err_from_is_err_and}
use Rattle.rows_out.proofs.Making.{out_refused, out_made}
use Rattle.rows_out.proofs.take_row.Goals as goal

pub returns-in_err-scale_row : goal.returns-in_err-scale_row
returns-in_err-scale_row c =
    let p = err_from_is_err_and c.from_residual.result c.from_residual.ensures.1 in
    let a = c.args in
    let scaled = rw c.lanes.ensures at c.in_err-scale_row.ensures in
    let both = out_refused a.form a.crop a.target a.accepted a.row a.out.now a.work.now _ c.used_rows-used.ensures _ _ scaled.out scaled.work c.in_err-scale_row.field-0.0 scaled.number in
    rw (p.1, p.2) (record { number = both.0; flag = both.1.0; out = both.1.1.0; work = both.1.1.1 })

pub returns : goal.returns
returns c =
    let a = c.args in
    let scaled = rw c.lanes.ensures at c.in_ok-scale_row.ensures in
    let both = out_made a.form a.crop a.target a.accepted a.row a.out.now a.work.now _ c.used_rows-used.ensures _ _ scaled.out scaled.work scaled.number _ _ _ c.finish_row.ensures.number c.finish_row.ensures.flag c.finish_row.ensures.out in
    record { number = both.0; flag = both.1.0; out = both.1.1.0; work = both.1.1.1 }
