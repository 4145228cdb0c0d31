-- A refusal is handed on with its number; else the plane's length decides. Assumes nothing.
use Rattle.std.proofs.lemmas.Result.{err_from_is_err_and}
use Prim.Native.Nat.{◌*◌}
use mathlib.Core.Path.{sym, ◌∙◌}
use mathlib.Core.List.{[], ◌∷◌}
use native.Mathlib.Omega.{arith}
use Rattle.pixels.specs.declared.Refusal.TheVariants.{PixelBufferMismatch}
use Rattle.pixels.specs.Refusals.{other_length}
use Rattle.pixels.proofs.Truths.{differ, same}
use Rattle.pixels.proofs.Causes.{first_at, first_none, first_past, first_stays}
use Rattle.pixels_alpha.specs.Alpha.{picture_causes, picture_number, alpha_number}
use Rattle.pixels_alpha.proofs.check_alpha.Goals as goal

pub returns-in_err-check_picture : goal.returns-in_err-check_picture
unfolding picture_number alpha_number
returns-in_err-check_picture c =
    let p = err_from_is_err_and c.from_residual.result c.from_residual.ensures.1 in
    let a = c.args in
    let e = sym c.in_err-check_picture.ensures in
    let plane = other_length a.m (a.size.width * a.size.height) PixelBufferMismatch ∷ [] in
    rw (p.1, p.2) (sym (first_stays c.in_err-check_picture.field-0.0 (picture_causes a.size a.n) plane e))

pub returns-then-m-pixel_count : goal.returns-then-m-pixel_count
unfolding picture_number alpha_number
returns-then-m-pixel_count c =
    let a = c.args in
    let z = sym c.in_ok-check_picture.ensures in
    let plane = other_length a.m (a.size.width * a.size.height) PixelBufferMismatch ∷ [] in
    let away = differ a.m (a.size.width * a.size.height) (λ e. c.if-m-pixel_count.true (omega (arith, c.pixel_count.ensures))) in
    sym (first_past (picture_causes a.size a.n) plane z ∙ first_at plane 0 tt away)

pub returns : goal.returns
unfolding picture_number alpha_number
returns c =
    let a = c.args in
    let z = sym c.in_ok-check_picture.ensures in
    let plane = other_length a.m (a.size.width * a.size.height) PixelBufferMismatch ∷ [] in
    let fit = same a.m (a.size.width * a.size.height) (omega (arith, c.pixel_count.ensures, c.if-m-pixel_count.false)) in
    sym (first_past (picture_causes a.size a.n) plane z ∙ first_none plane (fit, tt))
