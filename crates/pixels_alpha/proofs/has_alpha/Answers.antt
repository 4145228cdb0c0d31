-- The invariant: no pixel passed has an alpha other than 255. Assumes nothing.
use Rattle.pixels_alpha.proofs.Flags.{clear_at, clear_none, clear_next}
use Rattle.pixels_layout.proofs.Tabled.{place_lt}
use Rattle.pixels_alpha.specs.Alpha.{has_alpha}
use Rattle.pixels_layout.specs.Layout.{alpha_lane}
use Rattle.pixels.specs.Sizes.{pixel_lanes}
use lib.ListN.{length, get_or}
use native.Mathlib.Omega.{arith}
use mathlib.Core.Path.{◌≡◌, sym}
use Prim.Native.Nat.{◌+◌, ◌*◌, ◌/◌}
use Rattle.pixels_alpha.proofs.has_alpha.Goals as goal

pub loop-i-init : goal.loop-i-init
loop-i-init c = clear_none _

pub overflow_add-at : goal.overflow_add-at
overflow_add-at c = omega (arith, c.alpha_byte_offset-a.ensures, place_lt c.args.layout alpha_lane (omega arith))

pub bounds-bytes-at : goal.bounds-bytes-at
bounds-bytes-at c = omega (arith, c.alpha_byte_offset-a.ensures, place_lt c.args.layout alpha_lane (omega arith))

pub returns-then-bytes-at : goal.returns-then-bytes-at
unfolding has_alpha
returns-then-bytes-at c =
    let g = c.args in
    let o = c.alpha_byte_offset-a in
    let i = c.loop-i.i in
    let e = clear_at (λ j. get_or g.bytes.now (pixel_lanes * j + o.result) 0) (length g.bytes.now / pixel_lanes) i (omega arith) c.if-bytes-at.true in
    sym (rw o.ensures at e)

pub loop-i-preserved : goal.loop-i-preserved
loop-i-preserved c = clear_next _ c.loop-i.i c.loop-i.invariant c.if-bytes-at.false

pub returns : goal.returns
unfolding has_alpha
returns c =
    let g = c.args in
    let o = c.alpha_byte_offset-a in
    let e : c.loop-i.i ≡ length g.bytes.now / pixel_lanes = omega arith in
    sym (rw (e, o.ensures) at c.loop-i.invariant)
