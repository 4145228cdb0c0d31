-- Each turn ands one more pixel, and the alpha of all of them is 255 exactly if every alpha so far is. Assumes nothing.
use Prim.Native.Nat.{◌*◌}
use Rattle.pixels.specs.Sizes.{pixel_lanes}
use Rattle.pixels_badge.proofs.OpaquePixels.{Anded}
use Rattle.pixels_badge.proofs.some_clear.Given as goal

abbrev pub invariant-loop-i : goal.invariant-loop-i
invariant-loop-i l = Anded l.layout l.pixels l.all (pixel_lanes * l.i)
