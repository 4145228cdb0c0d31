-- `shrink_lane`: column after column of one lane; x pixels are used and reach `over` parts past the columns made. Assumes nothing.
use Rattle.std.proofs.Common.{◌≡◌, ℕ, ◌+◌, ◌-◌, ◌*◌, ◌/◌, ◌%◌, ◌<◌, ◌≤◌, ◌⊎◌, List, get_or, set, sym, refl, ap, ◌∙◌, inl, inr, mod-lt, add-one, arith}
use Rattle.arithmetic.proofs.Orders.{le_or_lt}
use native.Mathlib.Nat.{div-add-mod}
use Rattle.arithmetic.specs.Word.{wrap_add}
use Rattle.arithmetic.specs.FixedPoint.{frac}
use Rattle.arithmetic.proofs.Stores.{none_stored, store, all_stored}
use Rattle.rows.specs.Column as column
use Rattle.rows.specs.Column.{Finished}
use Rattle.rows.specs.Lanes.{row_value}
use Rattle.rows.specs.WorkRows.{written}
use Rattle.rows.proofs.Columns.{made_next}
use Rattle.rows.proofs.Lanes.{row_value_lem}
use Rattle.rows_widening.specs.Inner.{byte_of, RowAsks, row_written}
use Rattle.rows.specs.Inner.NextColumn.{NextAsks, NextIs}
use Rattle.rows_planes.specs.Inner.{SumAsks}
use Rattle.rows_widening.proofs.RowBytes.{byte_of_byte, one_byte}
use Rattle.rows.proofs.NextColumn.{LaneMade, lane_made, column_inside, next_longer, next_even}
use Rattle.rows_planes.proofs.LaneColumns.{Reads, reads_longer, reads_even}
use Rattle.rows_planes.proofs.shrink_lane.Invariants.{Inv}
use Rattle.rows_planes.proofs.shrink_lane.Goals as goal
use Rattle.rows_planes.proofs.shrink_lane.Goals.{then-over-rest, else-over-rest}

first : {s half₀ : List ℕ} {n m : ℕ} → RowAsks s half₀ 1 n m → Inv s n m half₀ half₀ 0 0 0 0
unfolding column.carry
first a =
    record {
      so_far = omega arith;
      made = omega arith;
      over_small = a.m_pos;
      x_small = omega arith;
      carry_is = refl;
      stored = none_stored _ (omega (arith, a.room));
    }

module _ {s half₀ half : List ℕ} {n m x over carry j : ℕ} (a : RowAsks s half₀ 1 n m) (shrinks : m ≤ n) (v : Inv s n m half₀ half x over carry j) (below : j < m) where
  module _ (each rest : ℕ) (e : each ≡ n / m) (r : rest ≡ n % m) where
    next_asks : NextAsks n m each rest x over
    next_asks = record {
      parts = rw (e, r) (omega (arith, div-add-mod n m));
      rest_small = rw r (mod-lt n a.m_pos);
      over_small = v.over_small;
      shrinks = shrinks;
      n_small = a.n_small;
      to_small = v.x_small;
    }

    next_inside : {x' over' : ℕ} → NextIs n m x over x x' over' → x' ≤ n
    next_inside {x'} {over'} w =
        column_inside n m j x' over' below w.over_small
        (made_next (byte_of 1 s 0) n m j x x' over over' v.over_small w.over_small v.made w.made)

    -- the pixels that every column has are in the row
    each_in : x + each ≤ n
    each_in = by (le_or_lt rest over)
      where
        by : (rest ≤ over) ⊎ (over < rest) → x + each ≤ n
        by (inl l) = next_inside (next_even next_asks l)
        by (inr l) = omega (arith, next_inside (next_longer next_asks l))

    -- and so is the one more
    longer-in : over < rest → x + each < n
    longer-in l = omega (arith, next_inside (next_longer next_asks l))

    sums : SumAsks s 1 0 x each
    sums = record { lane = omega arith; lanes_small = omega arith; whole = omega (arith, each_in, a.whole); small = omega (arith, each_in, a.n_small); bytes = a.bytes }

    module _ {x' over' total : ℕ} (d : Reads (byte_of 1 s 0) n m rest x over carry x' over' total) where
      some : 0 < x'
      some = omega (arith, d.next_is.more)

      in_row : x' ≤ n
      in_row = next_inside d.next_is

      turn : (scale l value carry' : ℕ) → scale ≡ frac 1 m → l ≡ get_or s (x' - 1) 0 → Finished m scale (over' - rest) total l value carry'
          → Inv s n m half₀ (set half j value) x' (over' - rest) carry' (j + 1)
      turn scale l value carry' scale_is l-is f =
          let w = d.next_is in
          let made = made_next (byte_of 1 s 0) n m j x x' over (over' - rest) v.over_small w.over_small v.made w.made in
          let lane : LaneMade (byte_of 1 s 0) n m j value carry' =
          lane_made (byte_of 1 s 0) (byte_of_byte 1 s a.bytes 0) n m j x x' over (over' - rest) shrinks a.n_small v.over_small w.over_small v.made w.made w.more
          scale carry _ l total value carry' scale_is v.carry_is refl (one_byte s (x' - 1) l l-is) d.total_is f in
          let at : 1 * j + 0 ≡ j = omega arith in
          record {
            so_far = omega arith;
            made = rw (add-one j) made;
            over_small = w.over_small;
            x_small = in_row;
            carry_is = lane.carry_is ∙ ap (column.carry (byte_of 1 s 0) n m) (sym (add-one j));
            stored = store v.stored below (lane.value_is ∙ sym (row_value_lem 1 j 0 (omega arith) (byte_of 1 s) n m) ∙ ap (row_value 1 (byte_of 1 s) n m) at);
          }

finished : {s half₀ half : List ℕ} {n m x over carry j : ℕ} → Inv s n m half₀ half x over carry j → m ≤ j → half ≡ row_written 1 n m s half₀
finished {s} {half₀} {n = n} {m = m} v l =
    all_stored v.stored l ∙ ap (λ (w : ℕ). written w (row_value 1 (byte_of 1 s) n m) half₀) (let e : m ≡ 1 * m = omega arith in e)

pub loop-j-init : goal.loop-j-init
loop-j-init c = first c.requires.row_asks

pub lane_sum-requires : goal.lane_sum-requires
lane_sum-requires c = sums c.requires.row_asks c.requires.m_le_n c.loop-j.invariant c.loop-j-test.true _ _ refl refl

pub bounds-row-x : goal.bounds-row-x
bounds-row-x c =
    let asks = c.requires.row_asks in
    omega (arith, longer-in asks c.requires.m_le_n c.loop-j.invariant c.loop-j-test.true _ _ refl refl c.if-over-rest.true, asks.whole)

pub bounds-row-x-in-loop-j : goal.bounds-row-x-in-loop-j
bounds-row-x-in-loop-j c =
    let asks = c.requires.row_asks in
    let no-wider = c.requires.m_le_n in
    let inv = c.loop-j.invariant in
    let more = c.loop-j-test.true in
    -- both ways lead to pixels read
    let s = c.args.row.now in
    let sums = next_asks c.requires.row_asks c.requires.m_le_n c.loop-j.invariant c.loop-j-test.true _ _ refl refl in
    let total = c.wrapping_add_u32-sum.ensures.value ∙ ap (wrap_add c.loop-j.carry) c.lane_sum.ensures in
    let t = c.if-over-rest in
    let reads : Reads (byte_of 1 s 0) c.args.n c.args.m (c.args.n % c.args.m) c.loop-j.x c.loop-j.over c.loop-j.carry t.x t.over t.sum =
    elim t.branch [
      | then-over-rest w ↦
          reads_longer (byte_of 1 s 0) sums c.loop-j.carry _ total w.if-over-rest.true _ t.sum t.x t.over (one_byte s _ _ refl)
          (w.sum-is ∙ w.wrapping_add_u32-sum-then-over-rest.ensures.value) w.x-is w.over-is
      | else-over-rest w ↦ reads_even (byte_of 1 s 0) sums c.loop-j.carry _ total w.if-over-rest.false t.sum t.x t.over w.sum-is w.x-is w.over-is
    ] in
    omega (arith, some asks no-wider inv more _ _ refl refl reads, in_row asks no-wider inv more _ _ refl refl reads, asks.whole)

pub loop-j-preserved : goal.loop-j-preserved
loop-j-preserved c =
    let asks = c.requires.row_asks in
    let no-wider = c.requires.m_le_n in
    let inv = c.loop-j.invariant in
    let more = c.loop-j-test.true in
    -- both ways lead to pixels read
    let s = c.args.row.now in
    let sums = next_asks c.requires.row_asks c.requires.m_le_n c.loop-j.invariant c.loop-j-test.true _ _ refl refl in
    let total = c.wrapping_add_u32-sum.ensures.value ∙ ap (wrap_add c.loop-j.carry) c.lane_sum.ensures in
    let t = c.if-over-rest in
    let reads : Reads (byte_of 1 s 0) c.args.n c.args.m (c.args.n % c.args.m) c.loop-j.x c.loop-j.over c.loop-j.carry t.x t.over t.sum =
    elim t.branch [
      | then-over-rest w ↦
          reads_longer (byte_of 1 s 0) sums c.loop-j.carry _ total w.if-over-rest.true _ t.sum t.x t.over (one_byte s _ _ refl)
          (w.sum-is ∙ w.wrapping_add_u32-sum-then-over-rest.ensures.value) w.x-is w.over-is
      | else-over-rest w ↦ reads_even (byte_of 1 s 0) sums c.loop-j.carry _ total w.if-over-rest.false t.sum t.x t.over w.sum-is w.x-is w.over-is
    ] in
    turn asks no-wider inv more _ _ refl refl reads _ _ _ _ c.frac-scale.ensures refl c.finish-e.ensures

pub returns : goal.returns
returns c = finished c.loop-j.invariant c.loop-j-test.false
