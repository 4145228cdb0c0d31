-- A refusal is handed on with its number; else the rows are copied and the flag read off the copy. Assumes nothing.
use Rattle.std.proofs.lemmas.Result.{err_from_is_err_and}
use Prim.Native.Nat.{◌*◌}
use mathlib.Core.Path.{sym}
use native.Mathlib.Omega.{arith}
use lib.ListN.{length}
use Rattle.pixels.proofs.Numbers.{all_refused, all_written}
use Rattle.pixels_alpha.proofs.Flags.{flag_of}
use Rattle.pixels_crop.specs.Crop.{cropped, crop_flag, crop_out}
use Rattle.pixels_crop.proofs.Windows.{cropped_length}
use Rattle.pixels_crop.proofs.Lengths.{crop_fits}
use Rattle.pixels_crop.proofs.crop.Goals as goal

pub returns-in_err-check_crop : goal.returns-in_err-check_crop
unfolding crop_flag crop_out
returns-in_err-check_crop c =
    let p = err_from_is_err_and c.from_residual.result c.from_residual.ensures.1 in
    let both = all_refused c.in_err-check_crop.field-0.0 _ _ _ _ (sym c.in_err-check_crop.ensures) in
    rw (p.1, p.2) (record { number = both.0; flag = both.1.0; out = both.1.1 })

pub crop_into-requires : goal.crop_into-requires
crop_into-requires c =
    let a = c.args in
    let z = sym c.in_ok-check_crop.ensures in
    let f = crop_fits a.source a.rect (length a.pixels.now) (length a.out.now) z in
    (f.sizes, f.picture, f.output)

pub returns : goal.returns
unfolding crop_flag crop_out
returns c =
    let a = c.args in
    let z = sym c.in_ok-check_crop.ensures in
    let f = crop_fits a.source a.rect (length a.pixels.now) (length a.out.now) z in
    let k = cropped_length a.source a.rect a.pixels.now f.sizes f.picture in
    let copied = c.crop_into.ensures in
    let both = all_written _ _ _ _ z
    (flag_of a.layout _ (cropped a.source a.rect a.pixels.now) (a.rect.width * a.rect.height) c.has_alpha.ensures copied (omega (arith, k)))
    copied in
    record { number = both.0; flag = both.1.0; out = both.1.1 }
