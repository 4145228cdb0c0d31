-- `widen_row`: a refusal is handed on with its number; else the row is written by its layout where the width grows. Assumes nothing.
use mathlib.Core.Path.{refl, sym, ◌∙◌}
use native.Mathlib.Omega.{arith}
use Rattle.std.proofs.lemmas.Result.{err_from_is_err_and}
use Rattle.rows.specs.Inner.Import.{Bytes}
use Rattle.rows.proofs.Importing.{row_asks, by_layout}
use Rattle.rows_growing.proofs.GrownRows.{pixels_of, grown_as}
use Rattle.rows_growing.proofs.Widened.{widened, not_widened, turned_away}
use Rattle.rows_growing.proofs.widen_row.Goals as goal

pub returns-in_err-check_import : goal.returns-in_err-check_import
returns-in_err-check_import c =
    let p = err_from_is_err_and c.from_residual.result c.from_residual.ensures.1 in
    let a = c.args in
    rw (p.1, p.2)
    (record {
      number = c.in_err-check_import.ensures;
      half = turned_away a.layout a.«crop_width» a.«target_width» a.row.now a.half.now c.in_err-check_import.field-0.0 c.in_err-check_import.ensures;
    })

pub grow-requires : goal.grow-requires
grow-requires c =
    let a = c.args in
    let asks = row_asks a.layout a.«crop_width» a.«target_width» a.row.now a.half.now refl (λ i. omega (arith, c.type_inv.row i)) c.in_ok-check_import.ensures in
    let count = pixels_of asks in
    rw count (record { row_asks = asks; grows = c.if-crop_width-target_width.true })

pub returns-then-crop_width-target_width : goal.returns-then-crop_width-target_width
returns-then-crop_width-target_width c =
    let a = c.args in
    let goes = c.in_ok-check_import.ensures in
    let bytes : Bytes a.row.now = λ i. omega (arith, c.type_inv.row i) in
    let asks = row_asks a.layout a.«crop_width» a.«target_width» a.row.now a.half.now refl bytes goes in
    let written = by_layout a.layout a.«crop_width» a.«target_width» a.row.now a.half.now refl bytes goes _ (grown_as refl asks _ c.grow.ensures) in
    record {
      number = goes;
      half = written ∙ sym (widened a.layout a.«crop_width» a.«target_width» a.row.now a.half.now c.if-crop_width-target_width.true);
    }

pub returns-else-crop_width-target_width : goal.returns-else-crop_width-target_width
returns-else-crop_width-target_width c =
    let a = c.args in
    record {
      number = c.in_ok-check_import.ensures;
      half = not_widened a.layout a.«crop_width» a.«target_width» a.row.now a.half.now c.if-crop_width-target_width.false;
    }
