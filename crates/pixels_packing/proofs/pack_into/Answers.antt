-- The invariant: the bytes of the pixels passed, then the buffer as it was. Assumes nothing.
use Rattle.arithmetic.proofs.Stretches.{none_filled, all_filled}
use Rattle.pixels_layout.proofs.Packing.{packed_turn, packed_length}
use Rattle.pixels_layout.specs.Layout.{packed_pixels}
use native.Mathlib.Omega.{arith}
use mathlib.Core.Path.{◌≡◌, refl, ap, ◌∙◌}
use lib.ListN.{length, get_or}
use mathlib.Core.Path.{◌≡◌}
use Rattle.pixels_packing.proofs.pack_into.Goals as goal

pub loop-i-init : goal.loop-i-init
loop-i-init c = (refl, none_filled _ _)

pub put-requires : goal.put-requires
put-requires c = (omega arith, ap length c.pack.ensures ∙ packed_length _ _)

pub loop-i-preserved : goal.loop-i-preserved
loop-i-preserved c =
    let a = c.args in
    let l = c.loop-i in
    (c.put.auto.out ∙ l.invariant.0, c.put.ensures ∙ rw c.pack.ensures (packed_turn a.layout (λ j. get_or a.argb.now j 0) l.i l.out a.out.now l.invariant.1))

pub shape_of-out : goal.shape_of-out
shape_of-out c = c.loop-i.invariant.0

pub returns : goal.returns
unfolding packed_pixels
returns c = let e : c.loop-i.i ≡ length c.args.argb.now = omega arith in all_filled _ _ _ c.args.out.now (c.requires) (rw e at c.loop-i.invariant.1)
