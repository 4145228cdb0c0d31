-- The invariant, byte by byte: the pixels passed have the plane's alpha, all else stays. Assumes nothing.
use Rattle.pixels_alpha.proofs.Planes.{partly_first, partly_turn, partly_done}
use Rattle.pixels_layout.proofs.Tabled.{place_lt}
use Rattle.pixels_alpha.specs.Alpha.{with_alpha}
use Rattle.pixels_layout.specs.Layout.{alpha_lane}
use Rattle.pixels.specs.Sizes.{pixel_lanes}
use lib.ListN.{length, length-set}
use native.Mathlib.Omega.{arith}
use mathlib.Core.Path.{◌≡◌, refl}
use Prim.Native.Nat.{◌<◌}
use Rattle.pixels_alpha.proofs.put_alpha.Goals as goal

pub loop-i-init : goal.loop-i-init
loop-i-init c = (refl, partly_first _ _ _)

pub overflow_add-to : goal.overflow_add-to
overflow_add-to c = omega (arith, c.alpha_byte_offset-alpha.ensures, place_lt c.args.layout alpha_lane (omega arith))

pub bounds-pixels-to : goal.bounds-pixels-to
bounds-pixels-to c = omega (arith, c.alpha_byte_offset-alpha.ensures, place_lt c.args.layout alpha_lane (omega arith))

pub loop-i-preserved : goal.loop-i-preserved
loop-i-preserved c =
    let g = c.args in
    let o = c.alpha_byte_offset-alpha in
    let l = c.loop-i in
    let small : o.result < pixel_lanes = omega (arith, o.ensures, place_lt g.layout alpha_lane (omega arith)) in
    (simp length-set l.invariant.0, partly_turn o.result small g.pixels.now g.plane.now l.pixels l.i (omega arith) l.invariant.1)

pub shape_of-pixels : goal.shape_of-pixels
shape_of-pixels c = c.loop-i.invariant.0

pub returns : goal.returns
unfolding with_alpha
returns c =
    let g = c.args in
    let o = c.alpha_byte_offset-alpha in
    let small : o.result < pixel_lanes = omega (arith, o.ensures, place_lt g.layout alpha_lane (omega arith)) in
    let e : c.loop-i.i ≡ length g.plane.now = omega arith in
    let d = partly_done o.result small g.pixels.now g.plane.now c.loop-i.pixels (c.requires) c.loop-i.invariant.0 (rw e at c.loop-i.invariant.1) in
    rw o.ensures at d
