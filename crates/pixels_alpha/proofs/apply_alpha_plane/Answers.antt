-- A refusal is handed on with its number; else the plane is written and the flag read off the pixels so made. Assumes nothing.
use Rattle.std.proofs.lemmas.Result.{err_from_is_err_and}
use Prim.Native.Nat.{◌*◌}
use mathlib.Core.Path.{sym}
use native.Mathlib.Omega.{arith}
use lib.ListN.{length}
use Rattle.pixels.proofs.Numbers.{all_refused, all_written}
use Rattle.pixels_alpha.specs.Alpha.{with_alpha, alpha_flag, alpha_pixels}
use Rattle.pixels_alpha.proofs.Planes.{with_length}
use Rattle.pixels_alpha.proofs.Flags.{flag_of}
use Rattle.pixels_alpha.proofs.Lengths.{alpha_fits}
use Rattle.pixels_alpha.proofs.apply_alpha_plane.Goals as goal

pub returns-in_err-check_alpha : goal.returns-in_err-check_alpha
unfolding alpha_flag alpha_pixels
returns-in_err-check_alpha c =
    let p = err_from_is_err_and c.from_residual.result c.from_residual.ensures.1 in
    let both = all_refused c.in_err-check_alpha.field-0.0 _ _ _ _ (sym c.in_err-check_alpha.ensures) in
    rw (p.1, p.2) (record { number = both.0; flag = both.1.0; pixels = both.1.1 })

pub put_alpha-requires : goal.put_alpha-requires
put_alpha-requires c =
    let a = c.args in
    let z = sym c.in_ok-check_alpha.ensures in
    let f = alpha_fits a.size (length a.pixels.now) (length a.plane.now) z in
    omega (arith, f.picture, f.plane)

pub returns : goal.returns
unfolding alpha_flag alpha_pixels
returns c =
    let a = c.args in
    let z = sym c.in_ok-check_alpha.ensures in
    let f = alpha_fits a.size (length a.pixels.now) (length a.plane.now) z in
    let t = with_alpha a.layout a.pixels.now a.plane.now in
    let put = c.put_alpha.ensures in
    let both = all_written _ _ _ _ z
    (flag_of a.layout _ t (a.size.width * a.size.height) c.has_alpha.ensures put (omega (arith, f.picture, with_length a.layout a.pixels.now a.plane.now)))
    put in
    record { number = both.0; flag = both.1.0; pixels = both.1.1 }
