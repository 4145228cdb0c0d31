-- `gather_block`: nothing where there is no block, else the block's sums by the place of the layout's alpha. Assumes nothing.
use Rattle.rows_gathering.proofs.Blocks.{block_of, gathered_none, gathered_made, pixels_none, pixels_made}
use native.Mathlib.Omega.{arith}
use lib.ListN.{length}
use mathlib.Core.Path.{sym, ◌∙◌}
use Rattle.rows_gathering.proofs.gather_block.Goals as goal

pub returns-then-not-block_fits : goal.returns-then-not-block_fits
returns-then-not-block_fits c =
    let a = c.args in
    let none = sym c.block_fits.ensures ∙ c.if-not-block_fits.true in
    record {
      sums = gathered_none a.layout a.plain a.n a.m a.first a.row.now a.sums.now none;
      pixels = pixels_none a.n a.m a.first (length a.row.now) none;
    }

pub gather-requires : goal.gather-requires
gather-requires c =
    let a = c.args in
    let some = sym c.block_fits.ensures ∙ c.if-not-block_fits.false in
    let fits = block_of a.n a.m a.first (length a.row.now) some in
    record {
      block_asks = record { fits = fits.0; whole = fits.1; bytes = λ i. omega (arith, c.type_inv.row i) };
      sums_len = c.whole.ensures;
    }

pub returns : goal.returns
returns c =
    let a = c.args in
    let some = sym c.block_fits.ensures ∙ c.if-not-block_fits.false in
    record {
      sums = gathered_made a.layout a.plain a.n a.m a.first a.row.now a.sums.now some c.of.ensures c.gather.ensures.sums;
      pixels = pixels_made a.n a.m a.first (length a.row.now) some c.gather.ensures.pixels;
    }
