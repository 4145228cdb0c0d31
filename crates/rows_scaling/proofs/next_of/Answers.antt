-- `next_of` meets its contract, which is the test. Assumes nothing.
use Rattle.std.proofs.Common.{eq-eqb}
use Rattle.rows_scaling.proofs.next_of.Goals as goal

pub returns : goal.returns
returns c = simp (eq-eqb _ _ c.if-c-ne0.false)
