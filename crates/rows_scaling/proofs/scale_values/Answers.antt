-- `scale_values` meets its contract: a refusal is handed on; past the tests one of the two directions, and a height that grows leaves the halves. Assumes nothing.
use Rattle.std.proofs.lemmas.Result.{err_from_is_err_and}
use Rattle.rows_scaling.proofs.Factors.{halves_stay}
use Rattle.rows_scaling.proofs.ScaleValues.{values_refused, row_asks, room_asks, values_done}
use Rattle.rows_scaling.specs.Scaling.{scale_in}
use Rattle.rows_scaling.proofs.scale_values.Goals as goal

pub returns-in_err-check_values : goal.returns-in_err-check_values
returns-in_err-check_values c =
    let p = err_from_is_err_and c.from_residual.result c.from_residual.ensures.1 in
    let a = c.args in
    let both = values_refused a.s a.used a.row a.out.now a.work.now c.in_err-check_values.field-0.0 c.in_err-check_values.ensures in
    rw (p.1, p.2) (record { number = both.0; out = both.1.0; work = both.1.1 })

pub invariant_of-due : goal.invariant_of-due
invariant_of-due c = let a = c.args in record { asks = row_asks a.s a.used a.row a.out.now a.work.now c.in_ok-check_values.ensures }

pub shrink-requires-clause-room_asks : goal.shrink-requires-clause-room_asks
shrink-requires-clause-room_asks c = let a = c.args in room_asks a.s a.used a.row a.out.now a.work.now c.in_ok-check_values.ensures

pub returns-then-s : goal.returns-then-s
returns-then-s c =
    let a = c.args in
    let z = c.in_ok-check_values.ensures in
    let both = values_done a.s a.used a.row a.out.now a.work.now z c.shrink.ensures.out c.shrink.ensures.work in
    record { number = both.0; out = both.1.0; work = both.1.1 }

pub invariant_of-due-2 : goal.invariant_of-due-2
invariant_of-due-2 c = let a = c.args in record { asks = row_asks a.s a.used a.row a.out.now a.work.now c.in_ok-check_values.ensures }

pub grow-requires-clause-room_asks : goal.grow-requires-clause-room_asks
grow-requires-clause-room_asks c = let a = c.args in room_asks a.s a.used a.row a.out.now a.work.now c.in_ok-check_values.ensures

pub returns : goal.returns
returns c =
    let a = c.args in
    let z = c.in_ok-check_values.ensures in
    let stays = halves_stay (scale_in a.s) a.used a.row a.work.now c.if-s.false in
    let both = values_done a.s a.used a.row a.out.now a.work.now z c.grow.ensures stays in
    record { number = both.0; out = both.1.0; work = both.1.1 }
