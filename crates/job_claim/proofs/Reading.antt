-- From the bytes of a source row to the values that the work rows hold: the crop window of a row that the byte function b agrees with, read as its form asks, gives
-- the bytes of the closed form; and a row goes out as the closed form of its lanes. Assumes nothing.
use Prim.Native.Nat.{ℕ, ◌+◌, ◌*◌, ◌/◌, ◌%◌, ◌^◌, ◌≤◌, ◌<◌}
use mathlib.Core.Path.{◌≡◌, refl, ap, ◌∙◌}
use mathlib.Core.Bool.{Bool, true, false}
use mathlib.Core.List.{List}
use native.Mathlib.Omega.{arith}
use native.Mathlib.Nat.{le_antisymm, mul-le-mul_left, mod-lt, lt_of_mul-lt-mul_right}
use lib.ListN.{length, get_or}
use Rattle.arithmetic.specs.Matte.{lane_of, pixel_of, mult_argb}
use Rattle.arithmetic.proofs.Quotients.{div_low}
use Rattle.arithmetic.proofs.Mattes.{lane_byte_lem, pixel_cong}
use Rattle.pixels.specs.Sizes.{row_bytes, half_values, Fits, LaneCount}
use Rattle.pixels_layout.specs.Layout.{lane_at, pixel_at}
use Rattle.pixels_layout.specs.Lanes.{matted}
use Rattle.pixels_crop.specs.Crop.{window_of}
use Rattle.pixels_layout.proofs.Tabled.{place_lt}
use Rattle.pixels_layout.proofs.Matted.{restored_cong}
use Rattle.pixels_crop.proofs.Windows.{window_byte}
use Rattle.rows_form.specs.declared.RowForm.{RowForm}
use Rattle.rows_form.specs.declared.RowForm.TheVariants.{Pixels, Plain}
use Rattle.rows_form.specs.Form.{lanes_in, place_in, plain, lane_in, place_out}
use Rattle.rows.specs.Column.{value}
use Rattle.rows.specs.Lanes.{row_value}
use Rattle.rows_laws.proofs.Monotone.{value_mono}
use Rattle.rows_laws.proofs.Columns.{value_word}
use Rattle.job_rules.specs.declared.Plan.{Plan}
use Rattle.job_rules.specs.Rules.{lanes_of, form_of, RulesOf}
use Rattle.job_rules.proofs.KindRules as kinds
use Rattle.job.specs.Calls.{values_of}
use Rattle.job_claim.specs.Rows.{source_byte, read_as, read_byte}

-- ---- what the rule of a plan's kind gives: its rows have its lanes, 1 to 4 of them
pub record Shape (p : Plan) : Type 0 where
  pub lanes_form : lanes_in (form_of p) ≡ lanes_of p
  pub lane_count : LaneCount (lanes_of p)

pub shape_of : (p : Plan) (k t : ℕ) (f : Bool) → RulesOf p k t f → Shape p
shape_of p k t f rules = record {
  lanes_form = kinds.lanes_form p.kind p.layout p.lanes f rules.kind_fitting;
  lane_count = kinds.lane_count p.kind p.layout p.lanes f rules.kind_fitting;
}

-- ---- place x of a half: its column and its lane
pub column_lt : (lanes m x : ℕ) → x < lanes * m → x / lanes < m
column_lt lanes m x l = lt_of_mul-lt-mul_right lanes (let h : x / lanes * lanes < m * lanes = omega (arith, div_low x lanes) in h)

-- ---- both forms
place_in_lem : (form : RowForm) (k : ℕ) → k < lanes_in form → place_in form k < lanes_in form
place_in_lem (Pixels layout) k l = place_lt layout k l
place_in_lem (Plain lanes) k l = l

-- a pixel whose lanes are `bytes` is read as they are
lane_read : (form : RowForm) (s : List ℕ) (bytes : ℕ → ℕ) (i k : ℕ) → k < lanes_in form
    → ((k' : ℕ) → k' < lanes_in form → get_or s (lanes_in form * i + place_in form k') 0 ≡ bytes k') → lane_in form s k i ≡ read_as form bytes k
unfolding matted pixel_at plain
lane_read (Pixels layout) s bytes i k l same = ap (λ (t : ℕ). lane_of (mult_argb t false) k) (pixel_cong (lane_at layout s i) bytes same)
lane_read (Plain lanes) s bytes i k l same = ap (λ (t : ℕ). t % 256) (same k l)

read_small : (form : RowForm) (bytes : ℕ → ℕ) (k : ℕ) → read_as form bytes k ≤ 255
read_small (Pixels layout) bytes k = lane_byte_lem (mult_argb (pixel_of bytes) false) k
read_small (Plain lanes) bytes k = omega arith

-- lanes that agree on a row are handed out as the same row
pub out_cong : (form : RowForm) (v w : ℕ → ℕ) (m z : ℕ) → z < row_bytes (lanes_in form) m → ((x : ℕ) → x < half_values (lanes_in form) m → v x ≡ w x) → place_out form v z ≡ place_out form w z
out_cong (Pixels layout) v w m z l same = restored_cong layout v w m z l same
out_cong (Plain lanes) v w m z l same = same z l

-- the value of crop row c at place x of a half
unfoldable pub crop_value : Plan → (ℕ → ℕ) → ℕ → ℕ → ℕ
crop_value p b c x = value (read_byte p b (x % lanes_of p) c) p.crop.width p.target.width (x / lanes_of p)

-- ---- the same pixels, the same value
pub value_cong : (p q : ℕ → ℕ) (n m j : ℕ) → j < m → ((i : ℕ) → i < n → p i ≡ q i) → value p n m j ≡ value q n m j
value_cong p q n m j within same =
    le_antisymm (value_mono p q n m j within (λ i l. omega (arith, same i l))) (value_mono q p n m j within (λ i l. omega (arith, same i l)))

-- ---- a source row, its bytes being those of b from its start on
module _ (p : Plan) (shape : Shape p) (b : ℕ → ℕ) (row : List ℕ) (c : ℕ) (fits : Fits p.source p.crop p.target)
    (long : length row ≡ row_bytes (lanes_of p) p.source.width)
    (agrees : (z : ℕ) → z < row_bytes (lanes_of p) p.source.width → get_or row z 0 ≡ b (row_bytes (lanes_of p) p.source.width * (p.crop.y + c) + z)) where
  abbrev window : List ℕ
  window = window_of (lanes_of p) row p.crop.x p.crop.width

  window_inside : row_bytes (lanes_of p) (p.crop.x + p.crop.width) ≤ length row
  window_inside = rw long (mul-le-mul_left (lanes_of p) fits.right)

  window_place : (i q : ℕ) → i < p.crop.width → q < lanes_of p
      → get_or window (lanes_of p * i + q) 0 ≡ b (row_bytes (lanes_of p) p.source.width * (p.crop.y + c) + (lanes_of p * (p.crop.x + i) + q))
  window_place i q l u =
      let next : i + 1 ≤ p.crop.width = omega arith in
      let in_window : lanes_of p * i + q < row_bytes (lanes_of p) p.crop.width = omega (arith, mul-le-mul_left (lanes_of p) next) in
      let in_row : row_bytes (lanes_of p) p.crop.x + (lanes_of p * i + q) < row_bytes (lanes_of p) p.source.width = omega (arith, window_inside, long) in
      let at : row_bytes (lanes_of p) p.crop.x + (lanes_of p * i + q) ≡ lanes_of p * (p.crop.x + i) + q = omega arith in
      window_byte (lanes_of p) row p.crop.x p.crop.width window_inside (lanes_of p * i + q) in_window
      ∙ agrees (row_bytes (lanes_of p) p.crop.x + (lanes_of p * i + q)) in_row
      ∙ ap (λ (z : ℕ). b (row_bytes (lanes_of p) p.source.width * (p.crop.y + c) + z)) at

  pub read_is : (k i : ℕ) → k < lanes_of p → i < p.crop.width → lane_in (form_of p) window k i ≡ read_byte p b k c i
  unfolding read_byte
  read_is k i u l =
      lane_read (form_of p) window (source_byte p b c i) i k (rw shape.lanes_form u)
      (λ k' u'. let small : place_in (form_of p) k' < lanes_of p = rw shape.lanes_form at (place_in_lem (form_of p) k' u') in rw shape.lanes_form (window_place i (place_in (form_of p) k') l small))

  pub values_are : (x : ℕ) → x < half_values (lanes_of p) p.target.width → values_of p row x ≡ crop_value p b c x
  unfolding row_value crop_value
  values_are x l =
      value_cong (lane_in (form_of p) window (x % lanes_of p)) (read_byte p b (x % lanes_of p) c) p.crop.width p.target.width (x / lanes_of p) (column_lt (lanes_of p) p.target.width x l)
      (λ i u. read_is (x % lanes_of p) i (mod-lt x shape.lane_count.some) u)

-- ---- values are words, bytes read are bytes
pub read_byte_small : (p : Plan) (b : ℕ → ℕ) (k c i : ℕ) → read_byte p b k c i ≤ 255
unfolding read_byte
read_byte_small p b k c i = read_small (form_of p) (source_byte p b c i) k

pub crop_value_word : (p : Plan) (b : ℕ → ℕ) → Fits p.source p.crop p.target → (c x : ℕ) → x < half_values (lanes_of p) p.target.width → crop_value p b c x < 2 ^ 32
unfolding crop_value
crop_value_word p b fits c x l =
    value_word (read_byte p b (x % lanes_of p) c) p.crop.width p.target.width (x / lanes_of p) fits.crop_width fits.target_width.most (column_lt (lanes_of p) p.target.width x l)
    (λ i u. read_byte_small p b (x % lanes_of p) c i) (omega (arith, fits.right, fits.source_width.most))
