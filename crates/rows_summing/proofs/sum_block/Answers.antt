-- `sum_block`: nothing where there is no block. Assumes nothing.
use Rattle.rows_summing.proofs.Blocks.{block_kept}
use mathlib.Core.Path.{sym, ◌∙◌}
use Rattle.rows_summing.proofs.sum_block.Goals as goal

pub returns-then-not-block_fits : goal.returns-then-not-block_fits
returns-then-not-block_fits c = let a = c.args in sym (block_kept a.layout a.n a.m a.first a.row.now a.sums.now (sym c.block_fits.ensures ∙ c.if-not-block_fits.true))
