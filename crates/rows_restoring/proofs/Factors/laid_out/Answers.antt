-- `laid_out`: the lent factors stand between those of alpha 0 and 255. Assumes nothing.
use Rattle.std.proofs.Common.{◌∙◌}
use Rattle.rows_restoring.proofs.EveryFactor.{factors_laid}
use Rattle.rows_restoring.proofs.Factors.laid_out.Goals as goal

pub invariant_of-result : goal.invariant_of-result
invariant_of-result c =
    record { whole = factors_laid (c.copy_from_slice.ensures.after ∙ c.restore_factors.ensures) }
