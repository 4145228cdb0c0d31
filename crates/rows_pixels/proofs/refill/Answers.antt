-- `refill`: a block is summed where its first column stands; else the sums are ready. Assumes nothing.
use Rattle.rows_pixels.proofs.Blocks.{filled_by_lem}
use Rattle.rows_pixels.proofs.refill.Goals as goal

pub returns-then-j-eq0 : goal.returns-then-j-eq0
returns-then-j-eq0 c = filled_by_lem c.args.layout c.args.sums.now c.requires.fill_asks c.if-j-eq0.true c.sum_block.ensures
