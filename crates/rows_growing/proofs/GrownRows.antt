-- A row whose width grows, column after column: acc parts of the left pixel are unused, and the next column uses step of them. Over any places p. Assumes nothing.
use Prim.Native.Nat.{ℕ, suc, ◌+◌, ◌-◌, ◌*◌, ◌/◌, ◌%◌, ◌≤◌, ◌<◌}
use mathlib.Core.Path.{◌≡◌, refl, sym, ap, ap₂, ◌∙◌, subst}
use mathlib.Core.List.{List}
use native.Mathlib.Omega.{arith}
use native.Mathlib.Nat.{mul-le-mul_right, lt_of_mul-lt-mul_right, mod-eq_of_lt, mod-lt}
use lib.ListN.{length}
use Rattle.arithmetic.specs.Word.{wrap_add, wrap_sub, wrap_mul}
use Rattle.arithmetic.specs.Table.{tabulate}
use Rattle.pixels.specs.Sizes.{max_side, pixel_lanes}
use Rattle.pixels_layout.specs.declared.PixelLayout.{PixelLayout}
use Rattle.pixels_layout.specs.declared.Places.{Places}
use Rattle.pixels_layout.specs.Layout.{places_of}
use Rattle.rows.specs.declared.Quad.{Quad}
use Rattle.rows.specs.Column.{value}
use Rattle.rows.specs.WorkRows.{written}
use Rattle.rows.specs.Lanes.{row_value}
use Rattle.rows.specs.Inner.Import.{at, Four, stored, lane_bytes, Within, PixelAsks, written_row, RowAsks}
use Rattle.rows.proofs.Differences.{lane_enters, lane_goes, lane_value}
use Rattle.rows.proofs.Lanes.{each, both, three, lane_byte_lem, row_values, put_four, written_length}
use Rattle.rows.specs.Inner.Differences.{LaneStands}
use Rattle.rows_growing.specs.Inner.{BetweenAsks, GrowAsks}

-- a pixel of the crop may be read
pixel : {s half : List ℕ} {p : Places} {n m : ℕ} (x : ℕ) → RowAsks s half n m p → x < n → PixelAsks s x
pixel x a h = record { whole = omega (arith, a.whole); small = omega (arith, a.n_small) }

module _ {s half : List ℕ} {p : Places} {n m : ℕ} (a : RowAsks s half n m p) where
  -- the row's pixels counted
  pub pixels_of : length s / pixel_lanes ≡ n
  pixels_of = omega (arith, a.whole)

  pub first_pixel : PixelAsks s 0
  first_pixel = pixel 0 a a.n_pos

  pub second_pixel : PixelAsks s (1 % n)
  second_pixel = pixel (1 % n) a (mod-lt 1 a.n_pos)

  pub first_between : {left : Quad} → Four (λ k. at left k ≡ lane_bytes p s k 0) → BetweenAsks left (m - 1) 0
  first_between l =
      record { bytes = each (λ k g. rw g (lane_byte_lem s a.bytes p k 0)) l; acc_small = omega (arith, a.m_small, a.m_pos); rest_small = omega arith }

  -- by what the calls before the loop say
  pub grow_asks : {left right fall v : Quad} → n < m → Four (λ k. at left k ≡ lane_bytes p s k 0) → Four (λ k. at right k ≡ lane_bytes p s k (1 % n))
      → Four (λ k. at fall k ≡ wrap_mul (wrap_sub (at left k) (at right k)) (n - 1))
      → Four (λ k. at v k ≡ wrap_add (wrap_mul (at left k) (m - 1)) (wrap_mul (at right k) 0))
      → GrowAsks s half p n m right fall v
  grow_asks {left} {right} {fall} {v} grows l r f w =
      let q : ℕ → ℕ → ℕ = lane_bytes p s in
      let byte : (k i : ℕ) → q k i ≤ 255 = lane_byte_lem s a.bytes p in
      let right-at : 1 % n ≡ 0 + 1 % n = omega arith in
      let r' : Four (λ k. at right k ≡ q k (0 + 1 % n)) = each (λ k g. g ∙ ap (q k) right-at) r in
      let fall_is : Four (λ k. at fall k ≡ wrap_mul (wrap_sub (q k 0) (q k (0 + 1 % n))) (n - 1)) = three (λ k g h u. u ∙ ap₂ (λ (t z : ℕ). wrap_mul (wrap_sub t z) (n - 1)) g h) l r' f in
      let v-is : Four (λ k. at v k ≡ wrap_add (wrap_mul (q k 0) (m - 1)) (wrap_mul (q k (0 + 1 % n)) 0)) =
      three (λ k g h u. u ∙ ap₂ (λ (t z : ℕ). wrap_add (wrap_mul t (m - 1)) (wrap_mul z 0)) g h) l r' w in
      record {
        row = a;
        grows = grows;
        right_is = r';
        lanes =
            both
            (λ k g h. lane_enters (q k 0) (q k (0 + 1 % n)) (m - 1) (n - 1) (byte k 0) (byte k (0 + 1 % n)) (omega (arith, a.m_small, a.m_pos)) (omega arith)
            (m - 1) 0 (at v k) (at fall k) (omega arith) g h)
            v-is fall_is;
      }

-- the places that a layout told lie within a pixel, as those of its row do
module _ (layout : PixelLayout) {s half : List ℕ} {p : Places} {n m : ℕ} (e : p ≡ places_of layout) (a : RowAsks s half n m (places_of layout)) where
  pub places_in : Within p
  places_in = rw e a.places

-- what the loop writes, with the width as a count of the row's pixels
pub grown_as : {layout told : PixelLayout} {s half : List ℕ} {n m : ℕ} → layout ≡ told → RowAsks s half n m (places_of layout) → (half' : List ℕ)
    → half' ≡ written_row (places_of told) (length s / pixel_lanes) m s half → half' ≡ written_row (places_of layout) n m s half
grown_as {s = s} {half = half} {m = m} is a half' w = w ∙ ap₂ (λ (t : PixelLayout) (k : ℕ). written_row (places_of t) k m s half) (sym is) (pixels_of a)

-- the same with the parts named
pub record Going (s half : List ℕ) (p : Places) (n m span step : ℕ) (right fall value : Quad) : Type 0 where
  pub row : RowAsks s half n m p
  pub grows : n < m
  pub span_is : span ≡ m - 1
  pub step_is : step ≡ n - 1
  pub right_is : Four (λ k. at right k ≡ lane_bytes p s k (0 + 1 % n))
  pub lanes : Four (λ k. LaneStands (lane_bytes p s k 0) (lane_bytes p s k (0 + 1 % n)) span span step (at value k) (at fall k))

pub going : {s half : List ℕ} {p : Places} {n m : ℕ} {right fall v : Quad} → GrowAsks s half p n m right fall v → Going s half p n m (m - 1) (n - 1) right fall v
going a = record { row = a.row; grows = a.grows; span_is = refl; step_is = refl; right_is = a.right_is; lanes = a.lanes }

-- for the layout that a match has told
pub grow_told : {layout told : PixelLayout} {s half : List ℕ} {n m : ℕ} {right fall v : Quad} → layout ≡ told → GrowAsks s half (places_of layout) n m right fall v
    → GrowAsks s half (places_of told) n m right fall v
grow_told {s = s} {half = half} {n = n} {m = m} {right = right} {fall = fall} {v = v} is a = subst (λ (t : PixelLayout). GrowAsks s half (places_of t) n m right fall v) is a

-- ---- the loop. Column j comes next; pixel x is the left one, and `right` the one after it: of one pixel, itself
pub record Grown (s : List ℕ) (p : Places) (n m span step : ℕ) (half₀ half : List ℕ) (right fall v : Quad) (x acc j : ℕ) : Type 0 where
  pub below : j < m
  pub inside : x + 1 % n < n
  pub along : acc + j * step ≡ suc x * span
  pub most : acc ≤ span
  pub right_is : Four (λ k. at right k ≡ lane_bytes p s k (x + 1 % n))
  pub lanes : Four (λ k. LaneStands (lane_bytes p s k x) (lane_bytes p s k (x + 1 % n)) acc span step (at v k) (at fall k))
  pub half_is : half ≡ written (pixel_lanes * j) (row_value pixel_lanes (lane_bytes p s) n m) half₀

module _ {s half₀ : List ℕ} {p : Places} {n m span step : ℕ} {right₀ fall₀ v₀ : Quad} (a : Going s half₀ p n m span step right₀ fall₀ v₀) where
  span_small : span < max_side
  span_small = omega (arith, a.row.m_small, a.row.m_pos, a.span_is)

  step_small : step ≤ span
  step_small = omega (arith, a.grows, a.span_is, a.step_is)

  pub grown_first : Grown s p n m span step half₀ half₀ right₀ fall₀ v₀ 0 span 0
  unfolding tabulate
  grown_first =
      record {
        below = a.row.m_pos;
        inside = omega (arith, mod-lt 1 a.row.n_pos);
        along = omega arith;
        most = omega arith;
        right_is = a.right_is;
        lanes = a.lanes;
        half_is = refl;
      }

  module _ {half : List ℕ} {right fall v : Quad} {x acc j : ℕ} (i : Grown s p n m span step half₀ half right fall v x acc j) where
    pub grown_room : (pixel_lanes * j + pixel_lanes ≤ length half) × (j < max_side)
    grown_room =
        let same : length half ≡ length half₀ =
        ap length i.half_is ∙ written_length (pixel_lanes * j) (row_value pixel_lanes (lane_bytes p s) n m) half₀ (omega (arith, i.below, a.row.room)) in
        (omega (arith, same, i.below, a.row.room), omega (arith, i.below, a.row.m_small))

    -- column j stored
    module _ (half' : List ℕ) (put : half' ≡ stored half j v) where
      lane : (k : ℕ) → LaneStands (lane_bytes p s k x) (lane_bytes p s k (x + 1 % n)) acc span step (at v k) (at fall k) → at v k ≡ value (lane_bytes p s k) n m j
      lane k = lane_value (lane_bytes p s k) a.grows i.below a.span_is a.step_is i.along i.most (omega (arith, i.inside)) (λ h. ap (lane_bytes p s k) (next h))
        where
          next : suc x < n → x + 1 % n ≡ suc x
          next h = let one : 1 % n ≡ 1 = mod-eq_of_lt (let g : 1 < n = omega arith in g) in omega arith

      column : half' ≡ written (pixel_lanes * (j + 1)) (row_value pixel_lanes (lane_bytes p s) n m) half₀
      column =
          put ∙ put_four (row_value pixel_lanes (lane_bytes p s) n m) j half₀ (omega (arith, i.below, a.row.room)) half v i.half_is
          (row_values (lane_bytes p s) n m j v (each lane i.lanes))

      pub grown_same : length half' ≡ length half₀
      grown_same = ap length column ∙ written_length (pixel_lanes * (j + 1)) (row_value pixel_lanes (lane_bytes p s) n m) half₀ (omega (arith, i.below, a.row.room))

      pub grown_done : j + 1 ≡ m → half' ≡ written_row p n m s half₀
      grown_done t = column ∙ ap (λ (k : ℕ). written (pixel_lanes * k) (row_value pixel_lanes (lane_bytes p s) n m) half₀) t

      module _ (more : j + 1 ≡ m → ⊥) where
        -- on in the same pair
        pub grown_on : {v' : Quad} → step ≤ acc → Four (λ k. at v' k ≡ wrap_sub (at v k) (at fall k)) → Grown s p n m span step half₀ half' right fall v' x (acc - step) (j + 1)
        grown_on {v'} some e =
            let q : ℕ → ℕ → ℕ = lane_bytes p s in
            let byte : (k i : ℕ) → q k i ≤ 255 = lane_byte_lem s a.row.bytes p in
            record {
              below = omega (arith, i.below, more);
              inside = i.inside;
              along = omega (arith, i.along);
              most = omega (arith, i.most);
              right_is = i.right_is;
              lanes =
                  both
                  (λ k w h. lane_goes (q k x) (q k (x + 1 % n)) span step (byte k x) (byte k (x + 1 % n)) span_small step_small acc (at v k) (at fall k) (at v' k) some i.most w h)
                  i.lanes e;
              half_is = column;
            }

        module _ (passed : acc < step) where
          -- a new pixel is wanted only while the position lies before the last one
          pub grown_more : suc (suc x) < n
          grown_more =
              let least : (j + 1) * step ≤ span * step = mul-le-mul_right step (let w : j + 1 ≤ span = omega (arith, a.span_is, i.below, more) in w) in
              let before : suc x * span < step * span = omega (arith, i.along) in
              omega (arith, lt_of_mul-lt-mul_right span before, a.step_is)

          pub grown_pixel : PixelAsks s (x + 2)
          grown_pixel = pixel (x + 2) a.row (omega (arith, grown_more))

          pub grown_between : BetweenAsks right (acc + span - step) (span - (acc + span - step))
          grown_between =
              record {
                bytes = each (λ k g. rw g (lane_byte_lem s a.row.bytes p k (x + 1 % n))) i.right_is;
                acc_small = omega (arith, span_small);
                rest_small = omega (arith, span_small);
              }

          -- into the next pair
          pub grown_over : {next fall' v' : Quad} → Four (λ k. at next k ≡ lane_bytes p s k (x + 2))
              → Four (λ k. at v' k ≡ wrap_add (wrap_mul (at right k) (acc + span - step)) (wrap_mul (at next k) (span - (acc + span - step))))
              → Four (λ k. at fall' k ≡ wrap_mul (wrap_sub (at right k) (at next k)) step)
              → Grown s p n m span step half₀ half' next fall' v' (x + 1) (acc + span - step) (j + 1)
          grown_over {next} {fall'} {v'} new e f =
              let q : ℕ → ℕ → ℕ = lane_bytes p s in
              let byte : (k i : ℕ) → q k i ≤ 255 = lane_byte_lem s a.row.bytes p in
              let one : 1 % n ≡ 1 = mod-eq_of_lt (let g : 1 < n = omega (arith, grown_more) in g) in
              let left_at : x + 1 % n ≡ x + 1 = omega arith in
              let right-at : x + 2 ≡ x + 1 + 1 % n = omega arith in
              let l : Four (λ k. at right k ≡ q k (x + 1)) = each (λ k g. g ∙ ap (q k) left_at) i.right_is in
              let r : Four (λ k. at next k ≡ q k (x + 1 + 1 % n)) = each (λ k g. g ∙ ap (q k) right-at) new in
              let v-is : Four (λ k. at v' k ≡ wrap_add (wrap_mul (q k (x + 1)) (acc + span - step)) (wrap_mul (q k (x + 1 + 1 % n)) (span - (acc + span - step)))) =
              three (λ k g h w. w ∙ ap₂ (λ (t u : ℕ). wrap_add (wrap_mul t (acc + span - step)) (wrap_mul u (span - (acc + span - step)))) g h) l r e in
              let fall_is : Four (λ k. at fall' k ≡ wrap_mul (wrap_sub (q k (x + 1)) (q k (x + 1 + 1 % n))) step) =
              three (λ k g h w. w ∙ ap₂ (λ (t u : ℕ). wrap_mul (wrap_sub t u) step) g h) l r f in
              record {
                below = omega (arith, i.below, more);
                inside = omega (arith, grown_more);
                along = omega (arith, i.along, step_small);
                most = omega arith;
                right_is = r;
                lanes =
                    both
                    (λ k g h. lane_enters (q k (x + 1)) (q k (x + 1 + 1 % n)) span step (byte k (x + 1)) (byte k (x + 1 + 1 % n)) span_small step_small
                    (acc + span - step) (span - (acc + span - step)) (at v' k) (at fall' k) (omega (arith, step_small)) g h)
                    v-is fall_is;
                half_is = column;
              }
