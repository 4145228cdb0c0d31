-- `shrink_pixels`: the invariant is `Standing`; a column's pixels are added to its carry one by one. Assumes nothing.
use Prim.Native.Nat.{◌/◌}
use lib.ListN.{length}
use Rattle.pixels.specs.Sizes.{pixel_lanes}
use Rattle.rows_pixels.proofs.Standing.{Standing}
use Rattle.rows_pixels.proofs.shrink_pixels.Given as goal

abbrev pub invariant-loop-j : goal.invariant-loop-j
invariant-loop-j l = Standing l.row l.initial.half (length l.row / pixel_lanes) l.m l.p l.half l.carry l.c.to l.c.over l.j
