-- A refusal is handed on; else the header is written into its part and the pixels are put behind it. Assumes nothing.
use mathlib.Core.Path.{sym, refl}
use Rattle.std.proofs.lemmas.Result.{err_from_is_err_and}
use Rattle.pam_writing.specs.Writing.{write_out}
use Rattle.pixels.proofs.Numbers.{buffer_refused}
use Rattle.pam_writing.proofs.Writing.{pixels_fit, part_long, file_written}
use Rattle.pam_writing.proofs.pam_write.Goals as goal

pub returns-in_err-check_write : goal.returns-in_err-check_write
unfolding write_out
returns-in_err-check_write c =
    let p = err_from_is_err_and c.from_residual.result c.from_residual.ensures.1 in
    let both = buffer_refused c.in_err-check_write.field-0.0 _ _ _ (sym c.in_err-check_write.ensures) in
    rw (p.1, p.2) (record { number = both.0; out = both.1 })

pub overflow_sub-k : goal.overflow_sub-k
overflow_sub-k c =
    let g = c.args in
    pixels_fit g.size g.pixels.now g.out.now (sym c.in_ok-check_write.ensures)

pub slice_bounds-pam_write_header-end-2 : goal.slice_bounds-pam_write_header-end-2
slice_bounds-pam_write_header-end-2 c =
    let g = c.args in
    part_long g.size g.pixels.now g.out.now (sym c.in_ok-check_write.ensures)

pub returns : goal.returns
returns c =
    let g = c.args in
    let h = c.pam_write_header-header in
    let both = file_written g.size g.pixels.now g.out.now (sym c.in_ok-check_write.ensures) _ h.new.out _ _ h.ensures.number h.ensures.out refl c.put.ensures in
    record { number = both.0; out = both.1 }
