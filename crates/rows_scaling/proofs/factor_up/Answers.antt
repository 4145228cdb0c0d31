-- `factor_up` meets its contract: the quotient is at most 2^32, so that what is left of it is a word, the factor. Assumes nothing.
use Rattle.rows_scaling.proofs.Factors.{factor_is}
use Rattle.rows_scaling.proofs.factor_up.Goals as goal

pub returns : goal.returns
returns c = factor_is c.args.span c.requires
