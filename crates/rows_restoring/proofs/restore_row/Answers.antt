-- `restore_row` meets its contract: a refusal is handed on; restored in the scaler's order and then put in the layout's, a row is restored and packed. Assumes nothing.
use Rattle.std.proofs.lemmas.Result.{err_from_is_err_and}
use Rattle.rows_restoring.proofs.RestoreRow.{restore_refused, restore_done}
use Prim.Native.Nat.{ℕ, ◌<◌}
use mathlib.Core.Path.{sym}
use lib.ListN.{get_or}
use Rattle.rows_restoring.proofs.restore_row.Goals as goal

pub returns-in_err-check_restore : goal.returns-in_err-check_restore
returns-in_err-check_restore c =
    let p = err_from_is_err_and c.from_residual.result c.from_residual.ensures.1 in
    let a = c.args in
    let both = restore_refused a.layout a.target_width a.out.now c.in_err-check_restore.field-0.0 (sym c.in_err-check_restore.ensures) in
    rw (p.1, p.2) (record { number = both.0; flag = both.1.0; out = both.1.1 })

pub returns : goal.returns
returns c =
    let a = c.args in
    let small : (y : ℕ) → get_or a.out.now y 0 < 256 = λ y. (c.slice_known-1.given y).fits in
    let goes = sym c.in_ok-check_restore.ensures in
    let both = restore_done a.layout a.target_width a.out.now small goes c.restore_lanes-flag.ensures.flag c.restore_lanes-flag.ensures.out c.order_lanes.ensures in
    record { number = both.0; flag = both.1.0; out = both.1.1 }
