-- A row by its number, for `import_row` and its callers: one turned away leaves the half; any other is as the loops ask, and its values are written. Assumes nothing.
use Rattle.std.proofs.Common.{◌≡◌, ℕ, List, length, sym, ap, ◌∙◌, eq-eqb}
use Rattle.pixels.specs.declared.Refusal.{Refusal}
use Rattle.pixels.specs.Refusals.{number}
use Rattle.pixels.proofs.Numbers.{buffer_refused}
use Rattle.pixels_layout.specs.declared.PixelLayout.{PixelLayout}
use Rattle.pixels_layout.specs.declared.Places.{Places}
use Rattle.pixels_layout.specs.Layout.{places_of}
use Rattle.pixels.specs.Sizes.{pixel_lanes, half_values}
use Rattle.rows_tests.specs.Tests.{import_number}
use Rattle.rows_tests.proofs.Passing.{import_of}
use Rattle.rows.specs.WorkRows.{written}
use Rattle.rows.specs.Import.{imported, import_half}
use Rattle.rows.specs.Inner.Import.{Bytes, written_row, RowAsks}
use Rattle.rows.proofs.Layouts.{places_within, matted_row}

-- where the number is 0, the row is written
pub import_written : (layout : PixelLayout) (n m : ℕ) (row half : List ℕ) → import_number pixel_lanes n m (length row) (length half) ≡ 0 → import_half layout n m row half ≡ imported layout n m row half
unfolding import_half
import_written layout n m row half e = simp (eq-eqb (import_number pixel_lanes n m (length row) (length half)) 0 e)

-- where it is a refusal's, the half stays
pub import_kept : (layout : PixelLayout) (n m : ℕ) (row half : List ℕ) (why : Refusal) → number why ≡ import_number pixel_lanes n m (length row) (length half) → half ≡ import_half layout n m row half
unfolding import_half
import_kept layout n m row half why e = (buffer_refused why (import_number pixel_lanes n m (length row) (length half)) (imported layout n m row half) half (sym e)).1

module _ (layout : PixelLayout) (n m : ℕ) (s half : List ℕ) {p : Places} (e : p ≡ places_of layout) (bytes : Bytes s) (goes : 0 ≡ import_number pixel_lanes n m (length s) (length half)) where
  pub row_asks : RowAsks s half n m p
  row_asks =
      let f = import_of pixel_lanes n m (length s) (length half) (sym goes) in
      record {
        n_pos = f.crop.some;
        n_small = f.crop.most;
        m_pos = f.target.some;
        m_small = f.target.most;
        whole = f.row_length;
        room = f.half_room;
        places = rw e (places_within layout);
        bytes = bytes;
      }

  -- what was written by places is the row of the matted lanes
  pub by_layout : (half' : List ℕ) → half' ≡ written_row p n m s half → half' ≡ import_half layout n m s half
  by_layout half' w =
      w
      ∙ ap (λ (q : Places). written_row q n m s half) e
      ∙ ap (λ (f : ℕ → ℕ). written (half_values pixel_lanes m) f half) (matted_row layout s bytes n m)
      ∙ sym (import_written layout n m s half (sym goes))
