-- `shrink_blocks`: the invariant is `Standing`, and that the sums are those of the block that the column is in. Assumes nothing.
use Rattle.rows_pixels.proofs.Standing.{standing_first, next_stands, standing_last, standing_more, inside}
use Rattle.rows_pixels.proofs.Blocks.{apart_of, row_in, place_is, filled_out, ready_first, ready_next, filled_column, column_pairs, column_pixels}
use Rattle.rows_pixels.proofs.shrink_blocks.Goals as goal

pub loop-j-init : goal.loop-j-init
loop-j-init c = (standing_first (row_in c.args.layout c.places-p.ensures c.requires.row_asks) c.zero4-carry.ensures, ready_first _ _ _ _ _)

pub both-requires-clause-four : goal.both-requires-clause-four
both-requires-clause-four c =
    let layout = c.args.layout in
    let told = c.places-p.ensures in
    let a = row_in layout told c.requires.row_asks in
    let v = c.loop-j.invariant.0 in
    let next = next_stands a c.requires.block_asks.shrinks v c.new-columns.ensures.0 c.new-columns.ensures.1 c.next-c.ensures.stands in
    let below = c.loop-j-test.true in
    column_pairs v next.1 a (inside a c.requires.block_asks.shrinks v next.1 below) (filled_out layout told c.refill.ensures) below

pub one-last-requires : goal.one-last-requires
one-last-requires c =
    let a = row_in c.args.layout c.places-p.ensures c.requires.row_asks in
    let shrinks = c.requires.block_asks.shrinks in
    let v = c.loop-j.invariant.0 in
    let next = next_stands a shrinks v c.new-columns.ensures.0 c.new-columns.ensures.1 c.next-c.ensures.stands in
    standing_last a shrinks v next.1 c.loop-j-test.true

pub loop-j-preserved : goal.loop-j-preserved
loop-j-preserved c =
    let layout = c.args.layout in
    let told = c.places-p.ensures in
    let a = row_in layout told c.requires.row_asks in
    let shrinks = c.requires.block_asks.shrinks in
    let v = c.loop-j.invariant.0 in
    let next = next_stands a shrinks v c.new-columns.ensures.0 c.new-columns.ensures.1 c.next-c.ensures.stands in
    let below = c.loop-j-test.true in
    let f = filled_out layout told c.refill.ensures in
    let l = rw (place_is layout told c.of-alpha.ensures) at c.one-last.ensures in (
      standing_more a shrinks v next.1 below (apart_of layout _ told) c.frac-scale.ensures c.add4-total.ensures
          (column_pixels v next.1 (filled_column _ f below c.both.ensures)) l c.end_column-carry.ensures.carry c.end_column-carry.ensures.half,
      ready_next _ c.refill.ensures,
    )
