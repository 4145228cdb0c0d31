-- `shrink_pixels`: the invariant is `Standing`; a column's pixels are added to its carry one by one. Assumes nothing.
use Prim.Native.Nat.{ℕ}
use mathlib.Core.Path.{refl}
use mathlib.Core.List.{List}
use Rattle.arithmetic.specs.Sum.{sum}
use Rattle.rows.specs.Tones.{toned_at}
use Rattle.rows.specs.declared.Quad.{Quad}
use Rattle.rows_pixels.proofs.Blocks.{apart_of, row_in, place_is}
use Rattle.rows_pixels.proofs.Standing.{standing_first, next_stands, standing_asks, standing_total, standing_last, standing_more}
use Rattle.rows_pixels.proofs.shrink_pixels.Goals as goal

-- the sums of `count` pixels from x on
abbrev sums-of : List ℕ → ℕ → ℕ → ℕ → Quad
sums-of s place x count =
    record { a = sum (toned_at s place 0) x count; b = sum (toned_at s place 1) x count; c = sum (toned_at s place 2) x count; d = sum (toned_at s place 3) x count }

pub loop-j-init : goal.loop-j-init
loop-j-init c = standing_first (row_in c.args.layout c.places-p.ensures c.requires.row_asks) c.zero4-carry.ensures

pub one-last-requires : goal.one-last-requires
one-last-requires c =
    let a = row_in c.args.layout c.places-p.ensures c.requires.row_asks in
    let next = next_stands a c.requires.m_le_n c.loop-j.invariant c.new-columns.ensures.0 c.new-columns.ensures.1 c.next-c.ensures.stands in
    standing_last a c.requires.m_le_n c.loop-j.invariant next.1 c.loop-j-test.true

pub total_of-total-requires : goal.total_of-total-requires
total_of-total-requires c =
    let a = row_in c.args.layout c.places-p.ensures c.requires.row_asks in
    let next = next_stands a c.requires.m_le_n c.loop-j.invariant c.new-columns.ensures.0 c.new-columns.ensures.1 c.next-c.ensures.stands in
    rw next.0 (standing_asks a c.requires.m_le_n c.loop-j.invariant next.1 c.loop-j-test.true)

pub loop-j-preserved : goal.loop-j-preserved
loop-j-preserved c =
    let layout = c.args.layout in
    let told = c.places-p.ensures in
    let a = row_in layout told c.requires.row_asks in
    let shrinks = c.requires.m_le_n in
    let v = c.loop-j.invariant in
    let next = next_stands a shrinks v c.new-columns.ensures.0 c.new-columns.ensures.1 c.next-c.ensures.stands in
    let below = c.loop-j-test.true in
    let place = place_is layout told c.of-alpha.ensures in
    let l = rw place at c.one-last.ensures in
    let total = standing_total a shrinks v next.1 below l (rw (place, next.0) at c.total_of-total.ensures) in
    standing_more a shrinks v next.1 below {sums = sums-of c.args.row.now c.places-p.result.a _ _} (apart_of layout _ told) c.frac-scale.ensures
    (record { l0 = total.l0; l1 = total.l1; l2 = total.l2; l3 = total.l3 }) (record { l0 = refl; l1 = refl; l2 = refl; l3 = refl }) l c.end_column-carry.ensures.carry c.end_column-carry.ensures.half
