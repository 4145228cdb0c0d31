-- `widen_plane_row`: a refusal is handed on with its number; else the row's bytes are written where the width grows. Assumes nothing.
use Rattle.std.proofs.lemmas.Result.{err_from_is_err_and}
use Rattle.std.proofs.Common.{sym, ◌∙◌, arith}
use Rattle.pixels.proofs.Numbers.{buffer_refused}
use Rattle.rows_widening.specs.Widening.{widened_half}
use Rattle.rows_widening.proofs.RowBytes.{row_asks, by_bytes, widened, not_widened}
use Rattle.rows_widening.proofs.widen_plane_row.Goals as goal

pub grow-requires : goal.grow-requires
grow-requires c =
    let a = c.args in
    let goes = c.in_ok-check_import.ensures in
    record {
      row_asks = row_asks a.lanes a.«crop_width» a.«target_width» a.row.now a.half.now (λ i. omega (arith, c.type_inv.row i)) goes;
      n_lt_m = c.if-crop_width-target_width.true;
    }

pub returns-in_err-check_import : goal.returns-in_err-check_import
unfolding widened_half
returns-in_err-check_import c =
    let p = err_from_is_err_and c.from_residual.result c.from_residual.ensures.1 in
    let both = buffer_refused c.in_err-check_import.field-0.0 _ _ _ (sym c.in_err-check_import.ensures) in
    rw (p.1, p.2) (record { number = both.0; half = both.1 })

pub returns-then-crop_width-target_width : goal.returns-then-crop_width-target_width
returns-then-crop_width-target_width c =
    let a = c.args in
    let goes = c.in_ok-check_import.ensures in
    let written = by_bytes a.lanes a.row.now (λ i. omega (arith, c.type_inv.row i)) a.«crop_width» a.«target_width» a.half.now _ c.grow.ensures in
    record {
      number = goes;
      half = written ∙ sym (widened a.lanes a.«crop_width» a.«target_width» a.row.now a.half.now goes c.if-crop_width-target_width.true);
    }

pub returns-else-crop_width-target_width : goal.returns-else-crop_width-target_width
returns-else-crop_width-target_width c =
    let a = c.args in
    let goes = c.in_ok-check_import.ensures in
    record {
      number = goes;
      half = sym (not_widened a.lanes a.«crop_width» a.«target_width» a.row.now a.half.now goes c.if-crop_width-target_width.false);
    }
