-- `sum_columns`: what stands after the block's sums stays; the bytes matted end the loop, and so do opaque ones as they stand. Assumes nothing.
use Rattle.rows_summing.proofs.Opaque.{alpha_in_lem, first_inside, first_small, seen_small, tail_kept, toned_done, opaque_done}
use Rattle.rows_gathering.proofs.Blocks.{block_of}
use native.Mathlib.Omega.{arith}
use lib.ListN.{length}
use Rattle.rows_summing.proofs.sum_columns.Goals as goal

pub overflow_mul-plain : goal.overflow_mul-plain
overflow_mul-plain c = let a = c.args in omega (arith, first_small (block_of a.n a.m a.first (length a.row.now) c.requires).0)

pub nonzero_div-plain : goal.nonzero_div-plain
nonzero_div-plain c = let a = c.args in omega (arith, (block_of a.n a.m a.first (length a.row.now) c.requires).0.inside)

pub overflow_mul-plain-2 : goal.overflow_mul-plain-2
overflow_mul-plain-2 c =
    let a = c.args in
    let fits = (block_of a.n a.m a.first (length a.row.now) c.requires).0 in
    omega (arith, first_inside fits, fits.n_small)

pub overflow_add-plain : goal.overflow_add-plain
overflow_add-plain c =
    let a = c.args in
    let fits = (block_of a.n a.m a.first (length a.row.now) c.requires).0 in
    omega (arith, first_inside fits, fits.n_small, alpha_in_lem a.layout c.alpha_byte_offset-place.ensures)

pub bounds-row-first : goal.bounds-row-first
bounds-row-first c =
    let a = c.args in
    let fits = block_of a.n a.m a.first (length a.row.now) c.requires in
    omega (arith, first_inside fits.0, fits.1, alpha_in_lem a.layout c.alpha_byte_offset-place.ensures)

pub returns-then-not-plain : goal.returns-then-not-plain
returns-then-not-plain c =
    let a = c.args in
    toned_done a.layout a.n a.m a.first a.row.now c.requires a.sums.now c.loop-plain.sums c.loop-plain.invariant c.if-not-plain.true
    c.gather_block-seen.ensures.sums

pub overflow_mul-seen : goal.overflow_mul-seen
overflow_mul-seen c =
    let a = c.args in
    omega (arith, c.gather_block-seen.ensures.pixels, seen_small a.layout a.n a.m a.first a.row.now c.requires)

pub returns-then-alphas-seen : goal.returns-then-alphas-seen
returns-then-alphas-seen c =
    let a = c.args in
    opaque_done a.layout a.n a.m a.first a.row.now c.requires a.sums.now c.loop-plain.sums c.loop-plain.invariant
    (λ i. omega (arith, c.type_inv.row i)) c.if-not-plain.false c.alpha_byte_offset-place.ensures
    (alpha_in_lem a.layout c.alpha_byte_offset-place.ensures) c.block_columns-count.ensures c.gather_block-seen.ensures.pixels c.alphas.ensures c.if-alphas-seen.true c.gather_block-seen.ensures.sums

pub loop-plain-preserved : goal.loop-plain-preserved
loop-plain-preserved c =
    let a = c.args in
    tail_kept a.layout a.n a.m a.first a.row.now c.requires a.sums.now c.loop-plain.sums c.loop-plain.invariant c.loop-plain.plain
    c.gather_block-seen.ensures.sums
