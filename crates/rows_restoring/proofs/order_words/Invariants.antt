-- `order_words` meets its contract: each turn puts the lanes of the next pixel in order. Assumes nothing.
use Rattle.rows_restoring.specs.Inner.Restoring.{pixels_in}
use Rattle.rows_restoring.proofs.RestoredPixels.{Ordered}
use Rattle.rows_restoring.proofs.order_words.Given as goal

abbrev pub invariant-loop-j : goal.invariant-loop-j
invariant-loop-j g l = Ordered g.layout l.initial.out l.out (pixels_in l.initial.out) l.j
