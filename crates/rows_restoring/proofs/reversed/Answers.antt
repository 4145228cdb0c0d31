-- `reversed` meets its contract: the sum is that of the four lanes in the other order. Assumes nothing.
use Rattle.rows_restoring.proofs.RestoredPixels.{reversed_word}
use Rattle.rows_restoring.proofs.reversed.Goals as goal

pub returns : goal.returns
returns c = reversed_word c.args.argb c.swap_bytes.ensures
