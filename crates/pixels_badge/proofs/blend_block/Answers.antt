-- Each turn blends the next two bytes; those not reached are the background's. Assumes nothing.
use Prim.Native.Nat.{ℕ, ◌+◌, ◌*◌, ◌≤◌, ◌<◌}
use mathlib.Core.Path.{◌≡◌}
use native.Mathlib.Omega.{arith}
use native.Mathlib.Nat.{le_of_suc-le-suc}
use lib.ListN.{length, get_or}
use Rattle.arithmetic.proofs.Stores.{same}
use Rattle.pixels_badge.proofs.Blocks.{blending_first, blending_room, alphas_room, colours_room, blending_turn, blending_done}
use Rattle.pixels_badge.proofs.blend_block.Goals as goal

pub loop-i-init : goal.loop-i-init
loop-i-init c = let a = c.args in blending_first a.pixels.now a.alphas.now a.colours.now

pub pair-requires : goal.pair-requires
pair-requires c = alphas_room c.loop-i.invariant c.requires (omega (arith, same c.loop-i.invariant.bytes))

pub pair-requires-in-loop-i : goal.pair-requires-in-loop-i
pair-requires-in-loop-i c = colours_room c.loop-i.invariant c.requires (omega (arith, same c.loop-i.invariant.bytes))

pub pair-requires-in-loop-i-2 : goal.pair-requires-in-loop-i-2
pair-requires-in-loop-i-2 c = blending_room c.loop-i.invariant c.requires (omega (arith, same c.loop-i.invariant.bytes))

pub put_pair-requires : goal.put_pair-requires
put_pair-requires c = blending_room c.loop-i.invariant c.requires (omega (arith, same c.loop-i.invariant.bytes))

pub loop-i-preserved : goal.loop-i-preserved
loop-i-preserved c =
    let l = c.loop-i in
    let a = c.args in
    let whole : (y : ℕ) → get_or a.pixels.now y 0 ≤ 255 = λ y. le_of_suc-le-suc (c.slice_known-1.given y).fits in
    let alphas : (y : ℕ) → get_or a.alphas.now y 0 ≤ 255 = λ y. le_of_suc-le-suc (c.type_inv.alphas y).fits in
    let colours : (y : ℕ) → get_or a.colours.now y 0 ≤ 255 = λ y. le_of_suc-le-suc (c.type_inv.colours y).fits in
    let next : 2 * (l.i + 1) ≡ 2 * l.i + 2 = omega arith in
    let more : 2 * l.i < length l.pixels = omega (arith, same l.invariant.bytes) in
    rw next (blending_turn l.invariant c.requires more whole alphas colours
    c.pair.ensures c.pair-in-loop-i.ensures c.pair-in-loop-i-2.ensures c.blend_pair.ensures c.put_pair.ensures)

pub shape_of-pixels : goal.shape_of-pixels
shape_of-pixels c = same c.loop-i.invariant.bytes

pub returns : goal.returns
returns c = blending_done c.loop-i.invariant (omega (arith, c.requires.whole, same c.loop-i.invariant.bytes))
