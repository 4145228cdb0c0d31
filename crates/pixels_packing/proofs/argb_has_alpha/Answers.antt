-- The invariant: no pixel passed has an alpha other than 255. Assumes nothing.
use Rattle.pixels_alpha.proofs.Flags.{clear_at, clear_none, clear_next}
use Rattle.arithmetic.proofs.Mattes.{lane_high}
use Rattle.pixels_alpha.specs.Alpha.{argb_has_alpha}
use native.Mathlib.Omega.{arith}
use Prim.Native.Nat.{◌<◌, ◌^◌}
use mathlib.Core.Path.{◌≡◌, sym, ◌∙◌}
use Rattle.pixels_layout.specs.Layout.{alpha_lane}
use Rattle.arithmetic.specs.Matte.{lane_of}
use lib.ListN.{length, get_or}
use mathlib.Core.Path.{◌≡◌}
use Rattle.pixels_packing.proofs.argb_has_alpha.Goals as goal

pub loop-pixel-init : goal.loop-pixel-init
loop-pixel-init c = clear_none _

pub returns-then-pixel-ne255 : goal.returns-then-pixel-ne255
unfolding argb_has_alpha
returns-then-pixel-ne255 c =
    let argb = c.args.argb.now in
    let i = c.loop-pixel.pixel-index in
    let w : get_or argb i 0 < 2 ^ 32 = omega (arith, c.type_inv.argb i) in
    sym (clear_at (λ j. lane_of (get_or argb j 0) alpha_lane) (length argb) i (omega arith) (λ e. c.if-pixel-ne255.true (sym (lane_high (get_or argb i 0) w) ∙ e)))

pub loop-pixel-preserved : goal.loop-pixel-preserved
loop-pixel-preserved c =
    let argb = c.args.argb.now in
    let i = c.loop-pixel.pixel-index in
    let w : get_or argb i 0 < 2 ^ 32 = omega (arith, c.type_inv.argb i) in
    clear_next _ i c.loop-pixel.invariant (lane_high (get_or argb i 0) w ∙ c.if-pixel-ne255.false)

pub returns : goal.returns
unfolding argb_has_alpha
returns c =
    let e : c.loop-pixel.pixel-index ≡ length c.args.argb.now = omega arith in
    sym (rw e at c.loop-pixel.invariant)
