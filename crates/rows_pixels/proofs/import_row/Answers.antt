-- `import_row`: a row whose width grows is handed on; else a refusal with its number, or the row is written by its layout. Assumes nothing.
use mathlib.Core.Path.{refl, ◌∙◌}
use native.Mathlib.Omega.{arith}
use Rattle.std.proofs.lemmas.Result.{err_from_is_err_and}
use Rattle.rows.specs.Inner.Import.{Bytes}
use Rattle.rows.proofs.Importing.{import_kept, row_asks, by_layout}
use Rattle.rows_growing.proofs.GrownRows.{pixels_of}
use Rattle.rows_growing.proofs.Widened.{widened}
use Rattle.rows_pixels.proofs.import_row.Goals as goal

pub returns-then-crop_width-target_width-clause-half : goal.returns-then-crop_width-target_width-clause-half
returns-then-crop_width-target_width-clause-half c =
    let a = c.args in
    c.widen_row.ensures.half ∙ widened a.layout a.«crop_width» a.«target_width» a.row.now a.half.now c.if-crop_width-target_width.true

pub returns-in_err-check_import : goal.returns-in_err-check_import
returns-in_err-check_import c =
    let p = err_from_is_err_and c.from_residual.result c.from_residual.ensures.1 in
    let a = c.args in
    rw (p.1, p.2)
    (record {
      number = c.in_err-check_import.ensures;
      half = import_kept a.layout a.«crop_width» a.«target_width» a.row.now a.half.now c.in_err-check_import.field-0.0 c.in_err-check_import.ensures;
    })

pub shrink_row-requires : goal.shrink_row-requires
shrink_row-requires c =
    let a = c.args in
    let asks = row_asks a.layout a.«crop_width» a.«target_width» a.row.now a.half.now refl (λ i. omega (arith, c.type_inv.row i)) c.in_ok-check_import.ensures in
    let count = pixels_of asks in
    rw count (record { row_asks = asks; m_le_n = c.if-crop_width-target_width.false })

pub returns-clause-half : goal.returns-clause-half
returns-clause-half c =
    let a = c.args in
    let goes = c.in_ok-check_import.ensures in
    let bytes : Bytes a.row.now = λ i. omega (arith, c.type_inv.row i) in
    let count = pixels_of (row_asks a.layout a.«crop_width» a.«target_width» a.row.now a.half.now refl bytes goes) in
    by_layout a.layout a.«crop_width» a.«target_width» a.row.now a.half.now refl bytes goes _ (rw count at c.shrink_row.ensures)
