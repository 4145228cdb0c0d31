-- A row of bytes: its lanes are what is read of it, and where its number is 0 the row is as the loops ask. Assumes nothing.
use Rattle.std.proofs.Common.{◌≡◌, ℕ, ◌+◌, ◌*◌, ◌/◌, ◌%◌, ◌<◌, ◌≤◌, List, length, get_or, sym, ap, ◌∙◌, arith, le-ltb, lt-ltb, eq-eqb}
use mathlib.Core.Path.{fun_ext}
use Rattle.pixels.specs.Sizes.{half_values}
use Rattle.rows_tests.specs.Tests.{import_number}
use Rattle.rows_tests.proofs.Passing.{import_of}
use Rattle.rows_form.specs.Form.{plain}
use Rattle.rows.specs.Column.{value}
use Rattle.rows.specs.Lanes.{row_value}
use Rattle.rows.specs.WorkRows.{written}
use Rattle.rows.specs.Inner.Import.{Bytes}
use Rattle.rows_widening.specs.Widening.{plane_written, widened_half}
use Rattle.rows_widening.specs.Inner.{byte_of, RowAsks, row_written}

pub byte_of_byte : (lanes : ℕ) (s : List ℕ) → Bytes s → (k i : ℕ) → byte_of lanes s k i ≤ 255
unfolding byte_of
byte_of_byte lanes s bytes k i = bytes (lanes * i + k)

-- of one lane, pixel i is byte i
pub one_byte : (s : List ℕ) (i b : ℕ) → b ≡ get_or s i 0 → b ≡ byte_of 1 s 0 i
unfolding byte_of
one_byte s i b e = e ∙ ap (λ (t : ℕ). get_or s t 0) (let q : i ≡ 1 * i + 0 = omega arith in q)

module _ (lanes : ℕ) (s : List ℕ) (bytes : Bytes s) where
  plain_is : (k i : ℕ) → byte_of lanes s k i ≡ plain lanes s k i
  unfolding byte_of plain
  plain_is k i = omega (arith, bytes (lanes * i + k))

  plain_row : (n m : ℕ) → row_value lanes (byte_of lanes s) n m ≡ row_value lanes (plain lanes s) n m
  unfolding row_value
  plain_row n m = fun_ext (λ (x : ℕ). ap (λ (p : ℕ → ℕ). value p n m (x / lanes)) (fun_ext (λ (i : ℕ). plain_is (x % lanes) i)))

  pub by_bytes : (n m : ℕ) (half half' : List ℕ) → half' ≡ row_written lanes n m s half → half' ≡ plane_written lanes n m s half
  by_bytes n m half half' w = w ∙ ap (λ (f : ℕ → ℕ). written (half_values lanes m) f half) (plain_row n m)

-- where the number is 0
pub row_asks : (lanes n m : ℕ) (s half : List ℕ) → Bytes s → 0 ≡ import_number lanes n m (length s) (length half) → RowAsks s half lanes n m
row_asks lanes n m s half bytes goes =
    let f = import_of lanes n m (length s) (length half) (sym goes) in
    record {
      lane_count = f.lane_count;
      n_pos = f.crop.some;
      n_small = f.crop.most;
      m_pos = f.target.some;
      m_small = f.target.most;
      whole = f.row_length;
      room = f.half_room;
      bytes = bytes;
    }

pub widened : (lanes n m : ℕ) (s half : List ℕ) → 0 ≡ import_number lanes n m (length s) (length half) → n < m → widened_half lanes n m s half ≡ plane_written lanes n m s half
unfolding widened_half
widened lanes n m s half e grows = simp (eq-eqb (import_number lanes n m (length s) (length half)) 0 (sym e), lt-ltb n m grows)

pub not_widened : (lanes n m : ℕ) (s half : List ℕ) → 0 ≡ import_number lanes n m (length s) (length half) → m ≤ n → widened_half lanes n m s half ≡ half
unfolding widened_half
not_widened lanes n m s half e shrinks = simp (eq-eqb (import_number lanes n m (length s) (length half)) 0 (sym e), le-ltb n m shrinks)
