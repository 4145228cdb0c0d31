-- Each turn ands one more pixel, and the alpha of all of them is 255 exactly if every alpha so far is. Assumes nothing.
use Prim.Native.Nat.{ℕ, ◌+◌, ◌*◌, ◌≤◌}
use mathlib.Core.Path.{◌≡◌}
use native.Mathlib.Omega.{arith}
use native.Mathlib.Nat.{le_of_suc-le-suc}
use lib.ListN.{get_or}
use Rattle.pixels.specs.Sizes.{pixel_lanes}
use Rattle.pixels_badge.proofs.OpaquePixels.{and_first, and_room, and_turn, and_done}
use Rattle.pixels_badge.proofs.some_clear.Goals as goal

pub loop-i-init : goal.loop-i-init
loop-i-init c = let a = c.args in and_first a.layout a.pixels.now

pub word-all-requires : goal.word-all-requires
word-all-requires c = and_room c.loop-i.invariant c.requires (omega arith)

pub loop-i-preserved : goal.loop-i-preserved
loop-i-preserved c =
    let small : (y : ℕ) → get_or c.args.pixels.now y 0 ≤ 255 = λ y. le_of_suc-le-suc (c.type_inv.pixels y).fits in
    let next : pixel_lanes * (c.loop-i.i + 1) ≡ pixel_lanes * c.loop-i.i + pixel_lanes = omega arith in
    rw next (and_turn c.loop-i.invariant c.requires small (omega arith) c.word-all.ensures)

pub returns : goal.returns
returns c = and_done c.loop-i.invariant c.requires (omega (arith, c.requires)) c.lanes_of.ensures.alpha
