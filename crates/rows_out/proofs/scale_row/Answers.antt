-- `scale_row` meets its contract: a refusal is handed on; past the tests the row is its values'. Assumes nothing.
use Rattle.std.proofs.lemmas.Result.{err_from_is_err_and}
use native.Mathlib.Omega.{arith}
use Rattle.arithmetic.proofs.Products.{most}
use Rattle.rows_out.proofs.ScaleRow.{scale_refused, scale_done}
use Rattle.rows_out.proofs.scale_row.Goals as goal

pub returns-in_err-check_scale : goal.returns-in_err-check_scale
returns-in_err-check_scale c =
    let p = err_from_is_err_and c.from_residual.result c.from_residual.ensures.1 in
    let a = c.args in
    let both = scale_refused a.lanes a.crop a.target a.used a.row a.out.now a.work.now c.in_err-check_scale.field-0.0 c.in_err-check_scale.ensures in
    rw (p.1, p.2) (record { number = both.0; out = both.1.0; work = both.1.1 })

pub overflow_mul-s : goal.overflow_mul-s
overflow_mul-s c = let a = c.args in omega (arith, most {x = a.lanes} {y = a.target.width} (omega arith) (omega arith))

pub returns : goal.returns
returns c =
    let a = c.args in
    let z = c.in_ok-check_scale.ensures in
    let both = scale_done a.lanes a.crop a.target a.used a.row a.out.now a.work.now z c.span.ensures c.scale_values.ensures.number c.scale_values.ensures.out c.scale_values.ensures.work in
    record { number = both.0; out = both.1.0; work = both.1.1 }
