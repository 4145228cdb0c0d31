-- A row whose width grows, column after column: acc parts of the left pixel are unused by the columns made, and the next column uses n - 1 of them. Assumes nothing.
use Rattle.std.proofs.Common.{◌≡◌, ℕ, suc, ◌+◌, ◌-◌, ◌*◌, ◌%◌, ◌<◌, ◌≤◌, ◌⊎◌, List, sym, refl, ap, ◌∙◌, inl, inr, mul-le-mul_right, mod-lt, mod-eq_of_lt, lt_of_mul-lt-mul_right, mul-le-mul_left, mul-zero, arith}
use Rattle.arithmetic.proofs.Orders.{le_or_lt}
use Rattle.arithmetic.proofs.Stores.{Stored, none_stored, place, same, all_stored}
use Rattle.rows.specs.Column.{value}
use Rattle.rows.specs.Lanes.{row_value}
use Rattle.rows.proofs.Columns.{lane_grown}
use Rattle.rows.proofs.Lanes.{row_value_lem}
use Rattle.rows_widening.specs.Inner.{byte_of, set_all, between_value, BetweenAsks, StandAsks, StandIs, RowAsks, row_written}
use Rattle.rows_widening.proofs.Storing.{stored_all}
use Rattle.rows_widening.proofs.RowBytes.{byte_of_byte}

pub record Growing (s : List ℕ) (lanes n m : ℕ) (half₀ half : List ℕ) (x acc j : ℕ) : Type 0 where
  pub so_far : j ≤ m
  pub inside : x + 1 % n < n
  pub along : acc + j * (n - 1) ≡ suc x * (m - 1) + (n - 1)
  pub most : acc ≤ (m - 1) + (n - 1)
  pub stored : Stored (row_value lanes (byte_of lanes s) n m) half₀ half (lanes * m) (lanes * j)

pub growing_first : {s half₀ : List ℕ} {lanes n m : ℕ} → RowAsks s half₀ lanes n m → Growing s lanes n m half₀ half₀ 0 ((m - 1) + (n - 1)) 0
growing_first {lanes = lanes} {n = n} a =
    record {
      so_far = omega arith;
      inside = omega (arith, mod-lt 1 a.n_pos);
      along = omega arith;
      most = omega arith;
      stored = place (none_stored _ a.room) (lanes * 0) (sym (mul-zero lanes));
    }

module _ {s half₀ half : List ℕ} {lanes n m x acc j : ℕ} (a : RowAsks s half₀ lanes n m) (grows : n < m) (v : Growing s lanes n m half₀ half x acc j) (below : j < m) where
  pub growing_stands : StandAsks (m - 1) (n - 1) x acc
  growing_stands = record { most = v.most; span_small = omega (arith, a.m_small); step_small = omega arith; x_small = omega (arith, v.inside, a.n_small) }

  -- a new pixel is wanted only while the position lies before the last one
  pub growing_more : acc < n - 1 → suc (suc x) < n
  growing_more u =
      let least : j * (n - 1) ≤ (m - 1) * (n - 1) = mul-le-mul_right (n - 1) (let w : j ≤ m - 1 = omega arith in w) in
      let before : suc x * (m - 1) < (n - 1) * (m - 1) = omega (arith, v.along) in
      omega (arith, lt_of_mul-lt-mul_right (m - 1) before)

  module _ {x' acc' : ℕ} (w : StandIs (m - 1) (n - 1) x acc x' acc') where
    -- the right pixel is in the row
    pub growing_right : x' + 1 % n < n
    growing_right = by (le_or_lt (n - 1) acc)
      where
        by : (n - 1 ≤ acc) ⊎ (acc < n - 1) → x' + 1 % n < n
        by (inl l) = rw (w.on.1 l) v.inside
        by (inr l) =
            let one : 1 % n ≡ 1 = mod-eq_of_lt (let h : 1 < n = omega (arith, growing_more l) in h) in
            omega (arith, w.on.0 l, growing_more l)

    pub growing_between : BetweenAsks s lanes x' (x' + 1 % n) acc' ((m - 1) - acc') half (lanes * j)
    growing_between =
        let le : j + 1 ≤ m = omega arith in
        let left : x' + 1 ≤ n = omega (arith, growing_right) in
        let right : x' + 1 % n + 1 ≤ n = omega (arith, growing_right) in
        record {
          lane_count = a.lane_count;
          left_in = omega (arith, a.whole, mul-le-mul_left lanes left);
          right_in = omega (arith, a.whole, mul-le-mul_left lanes right);
          left_small = omega (arith, a.n_small);
          right_small = omega (arith, growing_right, a.n_small);
          acc_small = omega (arith, w.small, a.m_small);
          rest_small = omega (arith, a.m_small);
          room = omega (arith, same v.stored, a.room, mul-le-mul_left lanes le);
        }

    pub growing_lane : (k : ℕ) → k < lanes → between_value lanes s x' (x' + 1 % n) acc' ((m - 1) - acc') k ≡ value (byte_of lanes s k) n m j
    unfolding between_value
    growing_lane k l =
        let here : acc' + j * (n - 1) ≡ suc x' * (m - 1) = omega (arith, v.along, w.along) in
        lane_grown (byte_of lanes s k) (byte_of_byte lanes s a.bytes k) n m j x' acc' _ _ _ grows a.m_small below here w.small (omega (arith, growing_right))
        refl (λ h. ap (λ (t : ℕ). byte_of lanes s k t) (next h)) (byte_of_byte lanes s a.bytes k (x' + 1 % n)) refl
      where
        next : suc x' < n → x' + 1 % n ≡ suc x'
        next h = let one : 1 % n ≡ 1 = mod-eq_of_lt (let g : 1 < n = omega arith in g) in omega arith

    pub growing_turn : (half' : List ℕ) → half' ≡ set_all half (lanes * j) (between_value lanes s x' (x' + 1 % n) acc' ((m - 1) - acc')) lanes → Growing s lanes n m half₀ half' x' acc' (j + 1)
    growing_turn half' put =
        let le : j + 1 ≤ m = omega arith in
        let at : lanes * j + lanes ≡ lanes * (j + 1) = omega arith in
        record {
          so_far = omega arith;
          inside = growing_right;
          along = omega (arith, v.along, w.along);
          most = omega (arith, w.small);
          stored =
              rw put
              (place
              (stored_all (between_value lanes s x' (x' + 1 % n) acc' ((m - 1) - acc')) lanes v.stored (omega (arith, mul-le-mul_left lanes le))
              (λ k l. growing_lane k l ∙ sym (row_value_lem lanes j k l (byte_of lanes s) n m)))
              (lanes * (j + 1)) at);
        }

pub growing_done : {s half₀ half : List ℕ} {lanes n m x acc j : ℕ} → Growing s lanes n m half₀ half x acc j → m ≤ j → half ≡ row_written lanes n m s half₀
growing_done {lanes = lanes} v l = all_stored v.stored (mul-le-mul_left lanes l)
