-- The invariant: the pixels passed, then the buffer as it was. Assumes nothing.
use Prim.Native.Nat.{◌<◌, ◌/◌}
use Rattle.arithmetic.proofs.Stretches.{none_filled, all_filled}
use Rattle.pixels_layout.proofs.Packing.{unpacked_at}
use Rattle.pixels_layout.specs.Layout.{unpacked_pixels}
use Rattle.arithmetic.proofs.Tables.{set_tabulate}
use lib.ListN.{length-set}
use native.Mathlib.Numerals.{add-one}
use native.Mathlib.Omega.{arith}
use mathlib.Core.Path.{◌≡◌, refl, ◌∙◌}
use Rattle.pixels_layout.specs.Layout.{pixel_at}
use lib.ListN.{length}
use mathlib.Core.Path.{◌≡◌}
use Rattle.pixels_packing.proofs.unpack_into.Goals as goal

pub loop-i-init : goal.loop-i-init
loop-i-init c = (refl, none_filled _ _)

pub loop-i-preserved : goal.loop-i-preserved
loop-i-preserved c =
    let a = c.args in
    let l = c.loop-i in
    let h : l.i < length a.out.now = omega arith in
    let e = c.unpack.ensures ∙ unpacked_at a.layout a.bytes.now l.i in
    (simp length-set l.invariant.0, rw (e, l.invariant.1, add-one) (set_tabulate (pixel_at a.layout a.bytes.now) l.i a.out.now h))

pub shape_of-out : goal.shape_of-out
shape_of-out c = c.loop-i.invariant.0

pub returns : goal.returns
unfolding unpacked_pixels
returns c = let e : c.loop-i.i ≡ length c.args.bytes.now / 4 = omega arith in all_filled _ _ _ c.args.out.now (c.requires) (rw e at c.loop-i.invariant.1)
