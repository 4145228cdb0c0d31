-- `shrink_lanes`: column after column; `to` pixels are used and reach `over` parts past the columns made. Assumes nothing.
use Rattle.std.proofs.Common.{◌≡◌, ℕ, suc, ◌+◌, ◌-◌, ◌*◌, ◌/◌, ◌<◌, ◌≤◌, List, ◌++◌, get_or, drop, replicate, sym, refl, ap, ◌∙◌, mul-le-mul_left, lt_of_mul-lt-mul_right, add-mul, mod-lt, mul-zero, add-one, arith, length-append}
use Rattle.std.proofs.lemmas.List.{length-replicate}
use native.Mathlib.Nat.{div-add-mod}
use lib.ListN.{get_or-replicate}
use Rattle.arithmetic.specs.FixedPoint.{frac}
use Rattle.arithmetic.specs.Table.{tabulate}
use Rattle.arithmetic.proofs.Tables.{length_tabulate, get_d_table}
use Rattle.arithmetic.proofs.Stores.{none_stored, place, same, all_stored}
use Rattle.rows.specs.Column as column
use Rattle.rows.proofs.Columns.{made_next}
use Rattle.rows.proofs.Lanes.{row_value_lem}
use Rattle.rows_widening.specs.Inner.{byte_of, set_all, RowAsks, row_written}
use Rattle.rows.specs.Inner.NextColumn.{StandsIn, NextIs}
use Rattle.rows_planes.specs.Inner.{column_value, column_carry, PutAsks}
use Rattle.rows_widening.proofs.Storing.{stored_all}
use Rattle.rows_widening.proofs.RowBytes.{byte_of_byte}
use Rattle.rows.proofs.NextColumn.{LaneMade, lane_made, column_inside}
use Rattle.rows_planes.proofs.shrink_lanes.Invariants.{Inv}
use Rattle.rows_planes.proofs.shrink_lanes.Goals as goal

first : {s half₀ carry : List ℕ} {lanes n m : ℕ} → RowAsks s half₀ lanes n m → carry ≡ replicate lanes 0 → Inv s lanes n m half₀ half₀ carry 0 0 0
unfolding column.carry
first {carry = carry} {lanes = lanes} a z =
    record {
      so_far = omega arith;
      made = omega arith;
      over_small = a.m_pos;
      to_small = omega arith;
      carries = λ k l. rw z (get_or-replicate lanes k 0 0 l);
      carry_room = rw z (omega (arith, length-replicate {A = ℕ} lanes 0));
      stored = place (none_stored _ a.room) (lanes * 0) (sym (mul-zero lanes));
    }

module _ {s half₀ half carry : List ℕ} {lanes n m to over j : ℕ} (a : RowAsks s half₀ lanes n m) (shrinks : m ≤ n)
    (v : Inv s lanes n m half₀ half carry to over j) where
  stands : StandsIn n m to over
  stands = record { over_small = v.over_small; shrinks = shrinks; n_small = a.n_small; to_small = v.to_small }

  next_stands : {n' m' from to' over' : ℕ} → (n' ≡ n) × (m' ≡ m) → (StandsIn n' m' to over → NextIs n' m' to over from to' over') → NextIs n m to over from to' over'
  next_stands e f = (rw (e.0, e.1) at f) stands

  module _ {from to' over' : ℕ} (w : NextIs n m to over from to' over') (below : j < m) where
    next_made : to' * m ≡ suc j * n + over'
    next_made = made_next (byte_of lanes s 0) n m j to to' over over' v.over_small w.over_small v.made w.made

    inside : to' ≤ n
    inside = column_inside n m j to' over' below w.over_small next_made

    -- how many pixels the column has
    fewest : from + n / m ≤ to'
    fewest =
        let below : (from + n / m) * m < (to' + 1) * m = rw (w.goes_on, add-mul to (n / m) m, add-mul to' 1 m) (omega (arith, w.made, v.over_small, div-add-mod n m)) in
        let l : from + n / m < to' + 1 = lt_of_mul-lt-mul_right m below in
        omega arith

    most : to' ≤ from + n / m + 1
    most =
        let below : to' * m < (from + n / m + 2) * m = rw (w.goes_on, add-mul (to + n / m) 2 m, add-mul to (n / m) m) (omega (arith, w.made, w.over_small, div-add-mod n m, mod-lt n a.m_pos)) in
        let l : to' < from + n / m + 2 = lt_of_mul-lt-mul_right m below in
        omega arith

    put-asks : PutAsks s lanes m (n / m) from to' over' carry half (lanes * j)
    put-asks =
        let le : j + 1 ≤ m = omega arith in
        record {
          lane_count = a.lane_count;
          m_small = a.m_small;
          over_small = w.over_small;
          more = w.more;
          fewest = fewest;
          most = most;
          small = omega (arith, inside, a.n_small);
          whole = rw a.whole (mul-le-mul_left lanes inside);
          carry_room = v.carry_room;
          room = omega (arith, same v.stored, a.room, mul-le-mul_left lanes le);
          bytes = a.bytes;
        }

    -- one lane of the column
    lane : (scale : ℕ) → scale ≡ frac 1 m → (k : ℕ) → k < lanes
        → LaneMade (byte_of lanes s k) n m j (column_value lanes s m from to' over' carry k) (column_carry lanes s scale to' over' k)
    unfolding column_value column_carry
    lane scale scale_is k l =
        lane_made (byte_of lanes s k) (byte_of_byte lanes s a.bytes k) n m j to to' over over' shrinks a.n_small v.over_small w.over_small v.made w.made
        (omega (arith, w.goes_on, w.more)) scale _ _ _ _ _ _ scale_is (v.carries k l)
        (ap (λ (x : ℕ). sum' x) w.goes_on) refl refl (record { value_is = refl; carry_is = refl })
      where
        sum' : ℕ → ℕ
        sum' x = Rattle.arithmetic.specs.Sum.sum (byte_of lanes s k) x (to' - x)

    turn : (scale : ℕ) → scale ≡ frac 1 m → (half' carry' : List ℕ) → half' ≡ set_all half (lanes * j) (column_value lanes s m from to' over' carry) lanes
        → carry' ≡ tabulate (column_carry lanes s scale to' over') lanes ++ drop lanes carry → Inv s lanes n m half₀ half' carry' to' over' (j + 1)
    turn scale scale_is half' carry' half_is carry_is =
        let le : j + 1 ≤ m = omega arith in
        let at : lanes * j + lanes ≡ lanes * (j + 1) = omega arith in
        record {
          so_far = omega arith;
          made = rw (add-one j) next_made;
          over_small = w.over_small;
          to_small = inside;
          carries = λ k l. ap (λ (c : List ℕ). get_or c k 0) carry_is ∙ get_d_table (column_carry lanes s scale to' over') lanes (drop lanes carry) k l ∙ (lane scale scale_is k l).carry_is
              ∙ ap (column.carry (byte_of lanes s k) n m) (sym (add-one j));
          carry_room = rw (carry_is, length-append, length_tabulate) (omega arith);
          stored =
              rw half_is
              (place
              (stored_all (column_value lanes s m from to' over' carry) lanes v.stored (omega (arith, mul-le-mul_left lanes le))
              (λ k l. (lane scale scale_is k l).value_is ∙ sym (row_value_lem lanes j k l (byte_of lanes s) n m)))
              (lanes * (j + 1)) at);
        }

  done : m ≤ j → half ≡ row_written lanes n m s half₀
  done l = all_stored v.stored (mul-le-mul_left lanes l)

pub loop-j-init : goal.loop-j-init
loop-j-init g c = first c.requires.row_asks refl

pub put_column-requires : goal.put_column-requires
put_column-requires g c =
    let asks = c.requires.row_asks in
    let next = next_stands asks c.requires.m_le_n c.loop-j.invariant c.new-sharing.ensures c.next-c.ensures.stands in
    (omega (arith, asks.lane_count.most), put-asks asks c.requires.m_le_n c.loop-j.invariant next c.loop-j-test.true)

pub loop-j-preserved : goal.loop-j-preserved
loop-j-preserved g c =
    let asks = c.requires.row_asks in
    let by_width = c.requires.m_le_n in
    let inv = c.loop-j.invariant in
    let more = c.loop-j-test.true in
    turn asks by_width inv (next_stands asks by_width inv c.new-sharing.ensures c.next-c.ensures.stands) more _ c.frac-scale.ensures _ _ c.put_column.ensures.half c.put_column.ensures.carry

pub returns : goal.returns
returns g c = done c.requires.row_asks c.requires.m_le_n c.loop-j.invariant c.loop-j-test.false
