-- Each turn stores the next pixel's colours and its alphas. Assumes nothing.
use Prim.Native.Nat.{ℕ, ◌+◌, ◌*◌, ◌≤◌}
use mathlib.Core.Path.{◌≡◌, refl}
use native.Mathlib.Omega.{arith}
use native.Mathlib.Nat.{le_of_suc-le-suc}
use lib.ListN.{get_or}
use Rattle.arithmetic.proofs.Stores.{same}
use Rattle.pixels.specs.Sizes.{pixel_lanes}
use Rattle.pixels_badge.proofs.Turning.{turning_first, turning_room, alphas_room, colours_room, turning_turn, alphas_done, colours_done}
use Rattle.pixels_badge.proofs.turn.Goals as goal

pub loop-i-init : goal.loop-i-init
loop-i-init c = turning_first c.args.layout c.args.from c.requires

pub word-requires : goal.word-requires
word-requires c = turning_room c.loop-i.invariant (omega arith) c.requires

pub put_word-requires : goal.put_word-requires
put_word-requires c = let i = c.loop-i.invariant in alphas_room i (turning_room i (omega arith) c.requires) c.requires

pub put_word-requires-in-loop-i : goal.put_word-requires-in-loop-i
put_word-requires-in-loop-i c = let i = c.loop-i.invariant in colours_room i (turning_room i (omega arith) c.requires) c.requires

pub loop-i-preserved : goal.loop-i-preserved
loop-i-preserved c =
    let l = c.loop-i in
    let small : (y : ℕ) → get_or c.args.badge.now y 0 ≤ 255 = λ y. le_of_suc-le-suc (c.type_inv.badge y).fits in
    let next : pixel_lanes * (l.i + 1) ≡ pixel_lanes * l.i + pixel_lanes = omega arith in
    rw next (turning_turn l.invariant small (turning_room l.invariant (omega arith) c.requires)
    c.word.ensures c.lanes_of-l.ensures refl c.opaque.ensures c.put_word.ensures c.put_word-in-loop-i.ensures)

pub shape_of-alphas : goal.shape_of-alphas
shape_of-alphas c = same c.loop-i.invariant.alphas_so

pub shape_of-colours : goal.shape_of-colours
shape_of-colours c = same c.loop-i.invariant.colours_so

pub returns : goal.returns
returns c =
    record {
      alphas = alphas_done c.loop-i.invariant (omega (arith, c.requires.whole));
      colours = colours_done c.loop-i.invariant (omega (arith, c.requires.whole));
    }
