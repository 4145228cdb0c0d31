-- `total_of`: the invariant is `Totalled`. Assumes nothing.
use Rattle.rows_pixels.proofs.Bytes.{Totalled}
use Rattle.rows_pixels.proofs.total_of.Given as goal

abbrev pub invariant-loop-x : goal.invariant-loop-x
invariant-loop-x l = Totalled l.row l.from l.to l.alpha.place l.initial.total l.total l.x
