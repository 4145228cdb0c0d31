-- Each turn blends the next two bytes; those not reached are the background's. Assumes nothing.
use Prim.Native.Nat.{◌*◌}
use Rattle.pixels_badge.proofs.Blocks.{Blending}
use Rattle.pixels_badge.proofs.blend_block.Given as goal

abbrev pub invariant-loop-i : goal.invariant-loop-i
invariant-loop-i l = Blending l.initial.pixels l.alphas l.colours l.pixels (2 * l.i)
