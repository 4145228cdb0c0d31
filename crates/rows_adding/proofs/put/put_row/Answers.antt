-- `put_row`: a refusal is handed on with its number; else the row is asked what it may ask. Assumes nothing.
use Rattle.std.proofs.lemmas.Result.{err_from_is_err_and}
use Rattle.std.proofs.Common.{sym}
use Rattle.pixels.proofs.Numbers.{buffer_refused, buffer_written}
use Rattle.rows_adding.specs.Put.{put_work}
use Rattle.rows_adding.proofs.put.put_row.Goals as goal

pub returns-in_err-check_put : goal.returns-in_err-check_put
unfolding put_work
returns-in_err-check_put c =
    let p = err_from_is_err_and c.from_residual.result c.from_residual.ensures.1 in
    let both = buffer_refused c.in_err-check_put.field-0.0 _ _ _ (sym (rw c.lanes.ensures at c.in_err-check_put.ensures)) in
    rw (p.1, p.2) (record { number = both.0; work = both.1 })

pub returns : goal.returns
unfolding put_work
returns c =
    let both = buffer_written _ _ _ (sym (rw c.lanes.ensures at c.in_ok-check_put.ensures)) c.row_in.ensures in
    record { number = both.0; work = both.1 }
