-- `swapped` meets its contract: the sum is that of the four lanes, blue and red exchanged. Assumes nothing.
use Rattle.rows_restoring.proofs.RestoredPixels.{swapped_word}
use Rattle.rows_restoring.proofs.swapped.Goals as goal

pub returns : goal.returns
returns c = swapped_word c.args.argb c.ranges.argb.fits
