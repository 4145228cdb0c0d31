-- A refusal is handed on with its number; else both halves are cleared. Assumes nothing.
use Rattle.std.proofs.lemmas.Result.{err_from_is_err_and}
use Prim.Native.Nat.{ℕ, ◌*◌, ◌≤◌}
use mathlib.Core.Path.{sym, ap}
use native.Mathlib.Omega.{arith}
use lib.ListN.{length}
use lib.Seq.{length-take-le}
use Rattle.job_start.proofs.Starting.{start_went, start_refused, start_goes, filled}
use Rattle.job_start.proofs.begin.Goals as goal

pub returns-in_err-check_start : goal.returns-in_err-check_start
returns-in_err-check_start c =
    let p = err_from_is_err_and c.from_residual.result c.from_residual.ensures.1 in
    let a = c.args in
    let both = start_refused a.plan a.work.now c.in_err-check_start.field-0.0 (sym c.in_err-check_start.ensures) in
    rw (p.1, p.2) (record { number = both.0; job = both.1.0; work = both.1.1 })

pub overflow_mul-row_bytes : goal.overflow_mul-row_bytes
overflow_mul-row_bytes c =
    let a = c.args in
    let z = sym c.in_ok-check_start.ensures in
    omega (arith, c.row_bytes.ensures, (start_went a.plan a.work.now z).room, c.well_formed.1.0)

pub slice_bounds-fill-end : goal.slice_bounds-fill-end
slice_bounds-fill-end c =
    let a = c.args in
    let z = sym c.in_ok-check_start.ensures in
    omega (arith, c.row_bytes.ensures, (start_went a.plan a.work.now z).room)

pub slice_bounds-fill-end-2 : goal.slice_bounds-fill-end-2
slice_bounds-fill-end-2 c =
    let a = c.args in
    let z = sym c.in_ok-check_start.ensures in
    sym (length-take-le (2 * c.row_bytes.result) a.work.now (omega (arith, c.row_bytes.ensures, (start_went a.plan a.work.now z).room)))

pub returns : goal.returns
returns c =
    let a = c.args in
    let z = sym c.in_ok-check_start.ensures in
    let n = 2 * c.row_bytes.result in
    let room : n ≤ length a.work.now = omega (arith, c.row_bytes.ensures, (start_went a.plan a.work.now z).room) in
    let both = start_goes a.plan a.work.now z _ _ (ap (λ (x : ℕ). 2 * x) c.row_bytes.ensures) (filled n a.work.now _ room (c.fill.ensures.after (λ y e. e))) in
    record { number = both.0; job = both.1.0; work = both.1.1 }
