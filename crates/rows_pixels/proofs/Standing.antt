-- The columns of a row made one after another, bytes in their order and stored as lanes: `Standing` is the invariant of any loop over them. Assumes nothing.
use Prim.Native.Nat.{ℕ, suc, ◌+◌, ◌-◌, ◌*◌, ◌/◌, ◌%◌, ◌≤◌, ◌<◌}
use mathlib.Core.Path.{◌≡◌, refl, sym, ap, ◌∙◌, fun_ext}
use mathlib.Core.List.{List}
use native.Mathlib.Omega.{arith}
use native.Mathlib.Nat.{mul-le-mul_left, div-add-mod, mod-lt}
use native.Mathlib.Numerals.{add-one}
use lib.ListN.{length}
use Rattle.arithmetic.specs.FixedPoint.{frac}
use Rattle.arithmetic.specs.Sum.{sum}
use Rattle.arithmetic.specs.Table.{tabulate}
use Rattle.arithmetic.specs.Word.{wrap_add}
use Rattle.pixels.specs.Sizes.{pixel_lanes}
use Rattle.pixels_layout.specs.declared.Places.{Places}
use Rattle.rows.specs.declared.Quad.{Quad}
use Rattle.rows.specs.Column as column
use Rattle.rows.specs.Column.{Finished, value}
use Rattle.rows.specs.Lanes.{row_value}
use Rattle.rows.specs.Tones.{toned_at}
use Rattle.rows.specs.WorkRows.{written}
use Rattle.rows.specs.Inner.Import.{at, Four, stored, lane_bytes, PixelAsks, Within, written_row, RowAsks}
use Rattle.rows.specs.Inner.NextColumn.{NextAsks, StandsIn, NextIs}
use Rattle.rows.proofs.Columns.{made_next}
use Rattle.rows.proofs.Lanes.{each, both, four_at, row_values, written_length, put_four}
use Rattle.rows.proofs.NextColumn.{LaneMade, lane_made, stands_in, column_inside}
use Rattle.rows.proofs.Tones.{toned_at_byte, toned_colour, toned_alpha}
use Rattle.rows_pixels.proofs.Bytes.{total_pixels}
use Rattle.rows_pixels.specs.Inner.{Apart, in_lanes, TotalAsks, EndAsks, end_value, end_carry}

-- ---- the bytes of a pixel at the places of its lanes are the lanes
module _ (s : List ℕ) (bytes : Rattle.rows.specs.Inner.Import.Bytes s) (p : Places) (apart : Apart p) where
  blue_is : lane_bytes p s 0 ≡ toned_at s p.a p.b
  unfolding lane_bytes
  blue_is = fun_ext (λ (x : ℕ). sym (toned_colour s bytes p.a p.b x apart.blue))

  green_is : lane_bytes p s 1 ≡ toned_at s p.a p.g
  unfolding lane_bytes
  green_is = fun_ext (λ (x : ℕ). sym (toned_colour s bytes p.a p.g x apart.green))

  red_is : lane_bytes p s 2 ≡ toned_at s p.a p.r
  unfolding lane_bytes
  red_is = fun_ext (λ (x : ℕ). sym (toned_colour s bytes p.a p.r x apart.red))

  alpha_is : lane_bytes p s 3 ≡ toned_at s p.a p.a
  unfolding lane_bytes
  alpha_is = fun_ext (λ (x : ℕ). sym (toned_alpha s bytes p.a x))

  -- so the values of the bytes are those of the lanes
  pub lanes_are : (n m j : ℕ) (f : ℕ → ℕ) → Within p → Four (λ k. f k ≡ value (toned_at s p.a k) n m j)
      → Four (λ k. at (in_lanes p f) k ≡ value (lane_bytes p s k) n m j)
  lanes_are n m j f w e =
      record {
        l0 = four_at e p.b w.b_in ∙ sym (ap (λ (q : ℕ → ℕ). value q n m j) blue_is);
        l1 = four_at e p.g w.g_in ∙ sym (ap (λ (q : ℕ → ℕ). value q n m j) green_is);
        l2 = four_at e p.r w.r_in ∙ sym (ap (λ (q : ℕ → ℕ). value q n m j) red_is);
        l3 = four_at e p.a w.a_in ∙ sym (ap (λ (q : ℕ → ℕ). value q n m j) alpha_is);
      }

-- ---- x pixels are used after j columns and reach `over` parts past them
pub record Standing (s half₀ : List ℕ) (n m : ℕ) (p : Places) (half : List ℕ) (carry : Quad) (x over j : ℕ) : Type 0 where
  pub so_far : j ≤ m
  pub made : x * m ≡ j * n + over
  pub over_small : over < m
  pub x_small : x ≤ n
  pub carries : Four (λ k. at carry k ≡ column.carry (toned_at s p.a k) n m j)
  pub stored_so_far : half ≡ written (pixel_lanes * j) (row_value pixel_lanes (lane_bytes p s) n m) half₀

pub standing_first : {s half₀ : List ℕ} {n m : ℕ} {p : Places} {carry : Quad} → RowAsks s half₀ n m p → Four (λ k. at carry k ≡ 0) → Standing s half₀ n m p half₀ carry 0 0 0
unfolding column.carry tabulate
standing_first a z =
    record {
      so_far = omega arith;
      made = omega arith;
      over_small = a.m_pos;
      x_small = omega arith;
      carries = z;
      stored_so_far = refl;
    }

module _ {s half₀ half : List ℕ} {n m : ℕ} {p : Places} {carry : Quad} {x over j : ℕ} (a : RowAsks s half₀ n m p) (shrinks : m ≤ n)
    (v : Standing s half₀ n m p half carry x over j) where
  pub standing_next : NextAsks n m (n / m) (n % m) x over
  standing_next =
      record {
        parts = omega (arith, div-add-mod n m);
        rest_small = mod-lt n a.m_pos;
        over_small = v.over_small;
        shrinks = shrinks;
        n_small = a.n_small;
        to_small = v.x_small;
      }

  -- the next column, by what its call says of the sharing's own numbers
  pub next_stands : {n' m' f x' over' : ℕ} → n' ≡ n → m' ≡ m → (StandsIn n' m' x over → NextIs n' m' x over f x' over') → (f ≡ x) × NextIs n m x over x x' over'
  next_stands {n'} {m'} {f} {x'} {over'} e g next =
      let w : NextIs n m x over f x' over' = (rw (e, g) at next) (stands_in standing_next) in
      let more : x < x' = rw w.goes_on at w.more in
      (w.goes_on, record { goes_on = refl; made = w.made; over_small = w.over_small; more = more })

  half_length : length half ≡ length half₀
  half_length =
      ap length v.stored_so_far
      ∙ written_length (pixel_lanes * j) (row_value pixel_lanes (lane_bytes p s) n m) half₀
      (omega (arith, a.room, mul-le-mul_left pixel_lanes v.so_far))

  module _ {x' over' : ℕ} (w : NextIs n m x over x x' over') (below : j < m) where
    next_made : x' * m ≡ suc j * n + over'
    next_made = made_next (toned_at s 0 0) n m j x x' over over' v.over_small w.over_small v.made w.made

    pub inside : x' ≤ n
    inside = column_inside n m j x' over' below w.over_small next_made

    pub standing_asks : TotalAsks s x x'
    standing_asks = record { some = w.more; whole = rw a.whole (mul-le-mul_left pixel_lanes inside); small = omega (arith, inside, a.n_small) }

    pub standing_last : PixelAsks s (x' - 1)
    standing_last =
        record {
          whole = rw a.whole (omega (arith, w.more, inside));
          small = omega (arith, w.more, inside, a.n_small);
        }

    pub standing_total : {last total : Quad} → Four (λ k. at last k ≡ toned_at s p.a k (x' - 1))
        → Four (λ k. at total k ≡ wrap_add (at carry k) (at last k + sum (toned_at s p.a k) x (x' - 1 - x))) → Four (λ k. at total k ≡ wrap_add (at carry k) (sum (toned_at s p.a k) x (x' - x)))
    standing_total {last} {total} = both (λ k. total_pixels (toned_at s p.a k) x x' (at carry k) (at last k) (at total k) w.more)

    pub standing_end : EndAsks half j m over' p
    standing_end =
        let le : j + 1 ≤ m = omega arith in
        record {
          room = omega (arith, half_length, a.room, mul-le-mul_left pixel_lanes le);
          j_small = omega (arith, a.m_small);
          m_small = a.m_small;
          over_small = w.over_small;
          places = a.places;
        }

    -- one byte of the column
    lane : (scale : ℕ) → scale ≡ frac 1 m → (total last : Quad) (k g : ℕ) → at carry k ≡ column.carry (toned_at s p.a k) n m j
        → at total k ≡ wrap_add (at carry k) g → g ≡ sum (toned_at s p.a k) x (x' - x) → at last k ≡ toned_at s p.a k (x' - 1)
        → LaneMade (toned_at s p.a k) n m j (end_value m over' total last k) (end_carry scale over' last k)
    unfolding end_value end_carry
    lane scale scale_is total last k g c-is t-is g-is l-is =
        lane_made (toned_at s p.a k) (toned_at_byte s a.bytes p.a k) n m j x x' over over' shrinks a.n_small v.over_small w.over_small v.made w.made
        w.more scale (at carry k) g (at last k) (at total k) _ _ scale_is c-is g-is l-is t-is (record { value_is = refl; carry_is = refl })

    -- the next column is made: of its total, its last pixel and what `end_column` says of them
    pub standing_more : {scale : ℕ} {total last sums carry' : Quad} {half' : List ℕ} → Apart p → scale ≡ frac 1 m
        → Four (λ k. at total k ≡ wrap_add (at carry k) (at sums k)) → Four (λ k. at sums k ≡ sum (toned_at s p.a k) x (x' - x))
        → Four (λ k. at last k ≡ toned_at s p.a k (x' - 1)) → Four (λ k. at carry' k ≡ end_carry scale over' last k)
        → half' ≡ stored half j (in_lanes p (end_value m over' total last)) → Standing s half₀ n m p half' carry' x' over' (j + 1)
    standing_more {scale} {total} {last} {sums} {carry'} apart scale_is t-is g-is l-is c-is half_is =
        let le : j + 1 ≤ m = omega arith in
        let f = row_value pixel_lanes (lane_bytes p s) n m in
        let lanes : Four (λ k. LaneMade (toned_at s p.a k) n m j (end_value m over' total last k) (end_carry scale over' last k)) =
        record {
          l0 = lane scale scale_is total last 0 (at sums 0) v.carries.l0 t-is.l0 g-is.l0 l-is.l0;
          l1 = lane scale scale_is total last 1 (at sums 1) v.carries.l1 t-is.l1 g-is.l1 l-is.l1;
          l2 = lane scale scale_is total last 2 (at sums 2) v.carries.l2 t-is.l2 g-is.l2 l-is.l2;
          l3 = lane scale scale_is total last 3 (at sums 3) v.carries.l3 t-is.l3 g-is.l3 l-is.l3;
        } in
        let values = lanes_are s a.bytes p apart n m j (end_value m over' total last) a.places (each (λ k w'. w'.value_is) lanes) in
        record {
          so_far = omega arith;
          made = rw (add-one j) next_made;
          over_small = w.over_small;
          x_small = inside;
          carries = both (λ k e w'. e ∙ w'.carry_is ∙ ap (column.carry (toned_at s p.a k) n m) (sym (add-one j))) c-is lanes;
          stored_so_far =
              half_is
              ∙ put_four f j half₀ (omega (arith, a.room, mul-le-mul_left pixel_lanes le)) half (in_lanes p (end_value m over' total last)) v.stored_so_far
              (row_values (lane_bytes p s) n m j (in_lanes p (end_value m over' total last)) values);
        }

  pub standing_done : m ≤ j → half ≡ written_row p n m s half₀
  standing_done l = v.stored_so_far ∙ ap (λ (t : ℕ). written (pixel_lanes * t) (row_value pixel_lanes (lane_bytes p s) n m) half₀) (omega (arith, v.so_far))

  pub standing_length : length half ≡ length half₀
  standing_length = half_length
