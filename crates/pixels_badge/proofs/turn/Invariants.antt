-- Each turn stores the next pixel's colours and its alphas. Assumes nothing.
use Prim.Native.Nat.{◌*◌}
use Rattle.pixels.specs.Sizes.{pixel_lanes}
use Rattle.pixels_badge.proofs.Turning.{Turning}
use Rattle.pixels_badge.proofs.turn.Given as goal

abbrev pub invariant-loop-i : goal.invariant-loop-i
invariant-loop-i l = Turning l.layout l.from l.badge l.initial.alphas l.initial.colours l.alphas l.colours (pixel_lanes * l.i)
