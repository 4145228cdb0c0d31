-- `byte` meets its contract: where the signed tests are used the factor fits them, so that the product does. Assumes nothing.
use Rattle.rows_scaling.proofs.Clamp.{mult_halved}
use Rattle.rows_scaling.proofs.Factor.byte.Goals as goal

pub byte_of-requires : goal.byte_of-requires
byte_of-requires c = mult_halved c.args.self.halved c.ranges.v.fits c.mult_fix.ensures
