-- `grow_by`: column after column, by the laws of GrownRows. Assumes nothing.
use Prim.Native.Nat.{◌-◌, ◌/◌}
use lib.ListN.{length}
use Rattle.pixels.specs.Sizes.{pixel_lanes}
use Rattle.rows_growing.specs.Inner.{placed}
use Rattle.rows_growing.proofs.GrownRows.{Grown}
use Rattle.rows_growing.proofs.grow_by.Given as goal

abbrev pub invariant-loop-j : goal.invariant-loop-j
invariant-loop-j g l =
    Grown l.row (placed g.row.B g.row.G g.row.R g.row.A) (length l.row / pixel_lanes) l.m l.span l.step l.initial.half l.half l.right l.fall l.value l.x l.acc l.j

abbrev pub decreases-loop-j : goal.decreases-loop-j
decreases-loop-j g l = l.m - l.j
