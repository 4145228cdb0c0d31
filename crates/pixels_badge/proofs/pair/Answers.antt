-- It joins the two bytes. Assumes nothing.
use Rattle.pixels_badge.proofs.Blocks.{pair_is}
use Rattle.pixels_badge.proofs.pair.Goals as goal

pub returns : goal.returns
returns c = let a = c.args in pair_is a.bytes.now a.at c.from_le_bytes.ensures
