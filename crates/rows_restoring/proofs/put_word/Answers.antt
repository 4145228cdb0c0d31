-- `put_word` meets its contract: the bytes of the word are the lanes of the pixel. Assumes nothing.
use Rattle.rows_restoring.proofs.RestoredPixels.{lanes_put}
use Rattle.rows_restoring.proofs.put_word.Goals as goal

pub returns : goal.returns
returns c = lanes_put c.args.out.now c.args.at c.args.argb c.to_le_bytes-lanes.ensures
