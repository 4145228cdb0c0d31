-- `half_of` meets its contract, which is the test. Assumes nothing.
use Rattle.std.proofs.Common.{ne_eqb}
use Rattle.rows_scaling.proofs.half_of.Goals as goal

pub returns : goal.returns
returns c = simp (ne_eqb _ _ c.if-c-eq0.false)
