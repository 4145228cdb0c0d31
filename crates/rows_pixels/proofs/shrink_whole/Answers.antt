-- `shrink_whole`: the invariant is `Standing` with nothing carried, and that the sums are those of the block that the column is in. Assumes nothing.
use Rattle.rows_pixels.proofs.Blocks.{apart_of, row_in, filled_out, ready_first, ready_next, filled_column, whole_first, whole_pairs, whole_more}
use Rattle.rows_pixels.proofs.shrink_whole.Goals as goal

pub loop-j-init : goal.loop-j-init
loop-j-init c = (whole_first (row_in c.args.layout c.places-p.ensures c.requires.row_asks), ready_first _ _ _ _ _)

pub both-requires-clause-four : goal.both-requires-clause-four
both-requires-clause-four c =
    let layout = c.args.layout in
    let told = c.places-p.ensures in
    let f = filled_out layout told c.refill.ensures in
    whole_pairs (row_in layout told c.requires.row_asks) c.requires.block_asks.shrinks c.requires.even c.loop-j.invariant.0 f c.loop-j-test.true

pub loop-j-preserved : goal.loop-j-preserved
loop-j-preserved c =
    let layout = c.args.layout in
    let told = c.places-p.ensures in
    let below = c.loop-j-test.true in
    let f = filled_out layout told c.refill.ensures in (
      whole_more (row_in layout told c.requires.row_asks) c.requires.block_asks.shrinks c.requires.even c.loop-j.invariant.0 below _ (filled_column _ f below c.both.ensures)
          (apart_of layout _ told) c.times4-bytes.ensures c.in_lanes.ensures c.put4.ensures,
      ready_next _ c.refill.ensures,
    )
