-- `of`: the table has the factor of each alpha. Assumes nothing.
use Rattle.arithmetic.specs.Matte.{restore_factor}
use Rattle.arithmetic.proofs.Tables.{get_d_tabulate}
use Rattle.rows_restoring.proofs.Factors.of.Goals as goal

pub returns : goal.returns
returns c = rw c.args.self.now.whole (get_d_tabulate restore_factor 256 c.args.alpha c.ranges.alpha.fits)
