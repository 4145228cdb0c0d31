-- A row of one lane whose width grows, column after column by differences: acc parts of pixel x are unused by column j, and the next column uses n - 1 of them.
-- The parts tell where the row ends: those of the last pair are used up in the last column. Assumes nothing.
use Rattle.std.proofs.Common.{◌≡◌, ℕ, suc, ◌+◌, ◌-◌, ◌*◌, ◌<◌, ◌≤◌, List, length, get_or, set, sym, refl, ap, ◌∙◌, ap₂, mul-le-mul_right, lt_of_mul-lt-mul_right, arith}
use Rattle.arithmetic.specs.Word.{wrap_add, wrap_sub, wrap_mul}
use Rattle.arithmetic.proofs.Stores.{Stored, none_stored, store, same, all_stored}
use Rattle.rows.specs.Lanes.{row_value}
use Rattle.rows.specs.Inner.Differences.{LaneStands}
use Rattle.rows.proofs.Differences.{lane_enters, lane_goes, lane_value}
use Rattle.rows.proofs.Lanes.{row_value_lem}
use Rattle.rows_widening.specs.Inner.{byte_of, RowAsks, row_written}
use Rattle.rows_widening.proofs.RowBytes.{byte_of_byte, one_byte}

-- Column j comes next; pixel x is the left one, and `right` the one after it
pub record Falling (s : List ℕ) (n m : ℕ) (half₀ half : List ℕ) (right v fall x acc j : ℕ) : Type 0 where
  pub below : j < m
  pub inside : x + 1 < n
  pub along : acc + j * (n - 1) ≡ suc x * (m - 1)
  pub most : acc ≤ m - 1
  pub right_is : right ≡ byte_of 1 s 0 (x + 1)
  pub lane : LaneStands (byte_of 1 s 0 x) (byte_of 1 s 0 (x + 1)) acc (m - 1) (n - 1) v fall
  pub stored : Stored (row_value 1 (byte_of 1 s) n m) half₀ half (1 * m) j

module _ {s half₀ : List ℕ} {n m : ℕ} (a : RowAsks s half₀ 1 n m) (g : (1 < n) × (n < m)) where
  -- a pair entered, with acc parts of the left pixel
  enters : (x : ℕ) {left right v fall : ℕ} (acc rest : ℕ) → left ≡ byte_of 1 s 0 x → right ≡ byte_of 1 s 0 (x + 1) → acc + rest ≡ m - 1
      → v ≡ wrap_add (wrap_mul left acc) (wrap_mul right rest) → fall ≡ wrap_mul (wrap_sub left right) (n - 1)
      → LaneStands (byte_of 1 s 0 x) (byte_of 1 s 0 (x + 1)) acc (m - 1) (n - 1) v fall
  enters x {left} {right} {v} {fall} acc rest l r whole e f =
      let byte : (i : ℕ) → byte_of 1 s 0 i ≤ 255 = byte_of_byte 1 s a.bytes 0 in
      lane_enters (byte_of 1 s 0 x) (byte_of 1 s 0 (x + 1)) (m - 1) (n - 1) (byte x) (byte (x + 1)) (omega (arith, a.m_small, a.m_pos)) (omega (arith, g.1)) acc rest v fall whole
      (e ∙ ap₂ (λ (t u : ℕ). wrap_add (wrap_mul t acc) (wrap_mul u rest)) l r)
      (f ∙ ap₂ (λ (t u : ℕ). wrap_mul (wrap_sub t u) (n - 1)) l r)

  pub falling_first : {left right v fall : ℕ} → left ≡ get_or s 0 0 → right ≡ get_or s 1 0 → v ≡ wrap_add (wrap_mul left (m - 1)) (wrap_mul right 0)
      → fall ≡ wrap_mul (wrap_sub left right) (n - 1) → Falling s n m half₀ half₀ right v fall 0 (m - 1) 0
  falling_first l r e f =
      record {
        below = a.m_pos;
        inside = omega (arith, g.0);
        along = omega arith;
        most = omega arith;
        right_is = one_byte s 1 _ r;
        lane = enters 0 (m - 1) 0 (one_byte s 0 _ l) (one_byte s 1 _ r) (omega arith) e f;
        stored = none_stored _ a.room;
      }

  module _ {half : List ℕ} {right v fall x acc j : ℕ} (i : Falling s n m half₀ half right v fall x acc j) where
    pub falling_room : j < length half
    falling_room = omega (arith, same i.stored, a.room, i.below)

    -- column j stored
    column : Stored (row_value 1 (byte_of 1 s) n m) half₀ (set half j v) (1 * m) (j + 1)
    column =
        let next : x + 1 ≡ suc x = omega arith in
        let place : 1 * j + 0 ≡ j = omega arith in
        store i.stored (omega (arith, i.below))
        (lane_value (byte_of 1 s 0) g.1 i.below refl refl i.along i.most (omega (arith, i.inside)) (λ _. ap (byte_of 1 s 0) next) i.lane
        ∙ sym (row_value_lem 1 j 0 (omega arith) (byte_of 1 s) n m)
        ∙ ap (row_value 1 (byte_of 1 s) n m) place)

    pub falling_same : length (set half j v) ≡ length half₀
    falling_same = same column

    -- a column more, while parts of the pair, or pixels, are left
    further : j * (n - 1) < (m - 1) * (n - 1) → j + 1 < m
    further l = omega (arith, lt_of_mul-lt-mul_right (n - 1) l)

    -- on in the same pair
    pub falling_on : {v' : ℕ} → n - 1 ≤ acc → v' ≡ wrap_sub v fall → Falling s n m half₀ (set half j v) right v' fall x (acc - (n - 1)) (j + 1)
    falling_on {v'} some e =
        let byte : (i : ℕ) → byte_of 1 s 0 i ≤ 255 = byte_of_byte 1 s a.bytes 0 in
        let pairs : suc x * (m - 1) ≤ (n - 1) * (m - 1) = mul-le-mul_right (m - 1) (let h : suc x ≤ n - 1 = omega (arith, i.inside) in h) in
        record {
          below = further (omega (arith, i.along, pairs, g.0));
          inside = i.inside;
          along = omega (arith, i.along);
          most = omega (arith, i.most);
          right_is = i.right_is;
          lane =
              lane_goes (byte_of 1 s 0 x) (byte_of 1 s 0 (x + 1)) (m - 1) (n - 1) (byte x) (byte (x + 1)) (omega (arith, a.m_small, a.m_pos)) (omega (arith, g.1)) acc v fall v' some
              i.most i.lane e;
          stored = column;
        }

    module _ (passed : acc < n - 1) where
      -- the last pair used up
      pub falling_done : n ≤ x + 2 → set half j v ≡ row_written 1 n m s half₀
      falling_done end =
          let last : suc x ≡ n - 1 = omega (arith, i.inside) in
          let along : acc + j * (n - 1) ≡ (n - 1) * (m - 1) = i.along ∙ ap (λ (t : ℕ). t * (m - 1)) last in
          let over : (m - 1) * (n - 1) < (j + 1) * (n - 1) = omega (arith, along) in
          all_stored column (omega (arith, lt_of_mul-lt-mul_right (n - 1) over))

      -- into the next pair
      pub falling_over : {next fall' v' : ℕ} → x + 2 < n → next ≡ get_or s (x + 2) 0
          → v' ≡ wrap_add (wrap_mul right (acc + (m - 1) - (n - 1))) (wrap_mul next ((m - 1) - (acc + (m - 1) - (n - 1)))) → fall' ≡ wrap_mul (wrap_sub right next) (n - 1)
          → Falling s n m half₀ (set half j v) next v' fall' (x + 1) (acc + (m - 1) - (n - 1)) (j + 1)
      falling_over {next} more new e f =
          let pairs : suc (suc x) * (m - 1) ≤ (n - 1) * (m - 1) = mul-le-mul_right (m - 1) (let h : suc (suc x) ≤ n - 1 = omega arith in h) in
          let place : x + 2 ≡ x + 1 + 1 = omega arith in
          let r : next ≡ byte_of 1 s 0 (x + 1 + 1) = one_byte s (x + 2) next new ∙ ap (byte_of 1 s 0) place in
          record {
            below = further (omega (arith, i.along, pairs, g.0, g.1));
            inside = omega arith;
            along = omega (arith, i.along, g.1);
            most = omega arith;
            right_is = r;
            lane = enters (x + 1) (acc + (m - 1) - (n - 1)) ((m - 1) - (acc + (m - 1) - (n - 1))) i.right_is r (omega (arith, g.1)) e f;
            stored = column;
          }
