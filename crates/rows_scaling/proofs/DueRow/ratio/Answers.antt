-- The divisor is not 0, and no product is too large. Assumes nothing.
use Rattle.std.proofs.Common.{refl}
use Rattle.rows.specs.Output.{ratio}
use Rattle.rows_scaling.proofs.DueRow.ratio.Goals as goal

pub returns : goal.returns
unfolding ratio
returns c = refl
