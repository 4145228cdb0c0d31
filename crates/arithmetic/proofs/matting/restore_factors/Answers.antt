-- `restore_factors` meets its contract: `refl` is the test of the table's rule, which computes all of its 254 entries. Assumes nothing.
use Rattle.std.proofs.Common.{refl}
use Rattle.arithmetic.specs.Table.{tabulate}
use Rattle.arithmetic.specs.Matte.{restore_factor, restore_factors}
use Rattle.arithmetic.proofs.matting.restore_factors.Goals as goal

pub returns : goal.returns
unfolding restore_factors restore_factor tabulate
returns c = refl
