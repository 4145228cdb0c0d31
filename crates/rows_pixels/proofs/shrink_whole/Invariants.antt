-- `shrink_whole`: the invariant is `Standing` with nothing carried, and that the sums are those of the block that the column is in. Assumes nothing.
use Prim.Native.Nat.{◌*◌, ◌/◌}
use lib.ListN.{length}
use Rattle.pixels.specs.Sizes.{pixel_lanes}
use Rattle.pixels_layout.specs.Layout.{places_of}
use Rattle.rows_pixels.specs.Inner.{Ready}
use Rattle.rows_pixels.proofs.Standing.{Standing}
use Rattle.rows_pixels.proofs.Blocks.{nothing}
use Rattle.rows_pixels.proofs.shrink_whole.Given as goal

abbrev pub invariant-loop-j : goal.invariant-loop-j
invariant-loop-j l =
    Standing l.row l.initial.half (length l.row / pixel_lanes) l.m l.p l.half nothing (length l.row / pixel_lanes / l.m * l.j) 0 l.j
    × Ready l.row (places_of l.layout).a (length l.row / pixel_lanes) l.m l.j l.sums
