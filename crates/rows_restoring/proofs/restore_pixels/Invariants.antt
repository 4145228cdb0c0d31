-- `restore_pixels` meets its contract: each turn restores the next pixel or finds it opaque. Assumes nothing.
use Rattle.rows_restoring.specs.Inner.Restoring.{pixels_in}
use Rattle.rows_restoring.proofs.RestoredPixels.{Restoring}
use Rattle.rows_restoring.proofs.restore_pixels.Given as goal

abbrev pub invariant-loop-j : goal.invariant-loop-j
invariant-loop-j l = Restoring l.initial.out l.out (pixels_in l.initial.out) l.j
