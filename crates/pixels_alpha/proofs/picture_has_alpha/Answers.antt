-- A refusal is handed on with its number; else the flag of the whole buffer. Assumes nothing.
use Rattle.std.proofs.lemmas.Result.{err_from_is_err_and}
use Prim.Native.Nat.{◌*◌}
use mathlib.Core.Path.{refl, sym}
use native.Mathlib.Omega.{arith}
use lib.ListN.{length}
use Rattle.pixels.proofs.Numbers.{flagged_refused, flagged_accepted}
use Rattle.pixels_alpha.specs.Alpha.{picture_flag}
use Rattle.pixels_alpha.proofs.Flags.{flag_of}
use Rattle.pixels_alpha.proofs.Lengths.{picture_long}
use Rattle.pixels_alpha.proofs.picture_has_alpha.Goals as goal

pub returns-in_err-check_picture : goal.returns-in_err-check_picture
unfolding picture_flag
returns-in_err-check_picture c =
    let p = err_from_is_err_and c.from_residual.result c.from_residual.ensures.1 in
    let both = flagged_refused c.in_err-check_picture.field-0.0 _ _ (sym c.in_err-check_picture.ensures) in
    rw (p.1, p.2) (record { number = both.0; flag = both.1 })

pub returns : goal.returns
unfolding picture_flag
returns c =
    let a = c.args in
    let z = sym c.in_ok-check_picture.ensures in
    let long = picture_long a.size (length a.pixels.now) z in
    let both = flagged_accepted _ _ z (flag_of a.layout a.pixels.now a.pixels.now (a.size.width * a.size.height) c.has_alpha-flag.ensures refl (omega (arith, long))) in
    record { number = both.0; flag = both.1 }
