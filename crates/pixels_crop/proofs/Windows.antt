-- The window of a row: where it lies in the row it has its length and its bytes; outside it is empty. And the rows of a crop, joined. Assumes nothing.
use Prim.Native.Nat.{ℕ, zero, suc, ◌+◌, ◌*◌, ◌-◌, ◌≤◌, ◌<◌}
use mathlib.Core.Path.{◌≡◌, sym, ap, ap₂, ◌∙◌}
use mathlib.Core.List.{List, [], ◌++◌, append-nil}
use native.Mathlib.Omega.{arith}
use native.Mathlib.Numerals.{add-one}
use native.Mathlib.Nat.{add-sub_cancel_left, mul-le-mul_left, mul-zero}
use lib.ListN.{length, get_or, take, drop, length-append, length-drop, drop_of_length-le}
use lib.Seq.{length-take-le, get_or-take, get_or-drop}
use borrow.Author.Tests.{le-leb, lt-leb}
use Rattle.pixels.specs.declared.Dimensions.{Dimensions}
use Rattle.pixels.specs.declared.Rect.{Rect}
use Rattle.pixels.specs.Sizes.{pixel_lanes, row_bytes, picture_bytes, Fits}
use Rattle.pixels_crop.specs.Crop.{window_of, picture_row, cropped_rows, cropped}
use Rattle.arithmetic.proofs.Stretches.{stretch}

-- ---- a window
module _ (lanes : ℕ) (row : List ℕ) (x w : ℕ) where
  pub window_outside : length row < row_bytes lanes (x + w) → window_of lanes row x w ≡ []
  unfolding window_of
  window_outside h = simp (lt-leb (row_bytes lanes (x + w)) (length row) h)

  module _ (inside : row_bytes lanes (x + w) ≤ length row) where
    pub window_inside : window_of lanes row x w ≡ take (row_bytes lanes w) (drop (row_bytes lanes x) row)
    unfolding window_of
    window_inside = simp (le-leb (row_bytes lanes (x + w)) (length row) inside)

    pub window_length : length (window_of lanes row x w) ≡ row_bytes lanes w
    window_length =
        ap length window_inside
        ∙ length-take-le (row_bytes lanes w) (drop (row_bytes lanes x) row) (simp length-drop (omega arith))

    pub window_byte : (i : ℕ) → i < row_bytes lanes w → get_or (window_of lanes row x w) i 0 ≡ get_or row (row_bytes lanes x + i) 0
    window_byte i h =
        ap (λ (s : List ℕ). get_or s i 0) window_inside
        ∙ get_or-take (row_bytes lanes w) (drop (row_bytes lanes x) row) i 0 h
        ∙ get_or-drop (row_bytes lanes x) row i 0

-- ---- a row of a picture
pub row_part : (lanes : ℕ) (pixels : List ℕ) (w c : ℕ) → take (row_bytes lanes w * c + row_bytes lanes w - row_bytes lanes w * c) (drop (row_bytes lanes w * c) pixels) ≡ picture_row lanes pixels w c
unfolding picture_row
row_part lanes pixels w c = rw add-sub_cancel_left

module _ (lanes : ℕ) (pixels : List ℕ) (w h c : ℕ) (long : length pixels ≡ picture_bytes lanes w h) (inside : c < h) where
  pub row_fits : row_bytes lanes w * c + row_bytes lanes w ≤ length pixels
  row_fits = omega (arith, mul-le-mul_left (row_bytes lanes w) inside)

  pub row_length : length (picture_row lanes pixels w c) ≡ row_bytes lanes w
  unfolding picture_row
  row_length =
      length-take-le (row_bytes lanes w) (drop (row_bytes lanes w * c) pixels) (simp length-drop (omega (arith, row_fits)))

-- ---- the rows of a crop that fits
module _ (source : Dimensions) (crop : Rect) (pixels : List ℕ) (fits : Fits source crop source) (long : length pixels ≡ picture_bytes pixel_lanes source.width source.height) where
  abbrev rows : ℕ → List ℕ
  rows = cropped_rows pixels source.width crop

  abbrev stripe : ℕ → List ℕ
  stripe i = window_of pixel_lanes (picture_row pixel_lanes pixels source.width (crop.y + i)) crop.x crop.width

  pub stripe_length : (i : ℕ) → i < crop.height → length (stripe i) ≡ row_bytes pixel_lanes crop.width
  stripe_length i h =
      window_length pixel_lanes (picture_row pixel_lanes pixels source.width (crop.y + i)) crop.x crop.width
      (omega (arith, row_length pixel_lanes pixels source.width source.height (crop.y + i) long (omega arith)))

  pub rows_length : (i : ℕ) → i ≤ crop.height → length (rows i) ≡ row_bytes pixel_lanes crop.width * i
  unfolding cropped_rows
  rows_length zero h = omega arith
  rows_length (suc i) h =
      length-append (rows i) (stripe i) ∙ omega (arith, rows_length i (omega arith), stripe_length i (omega arith))

  pub rows_none : (out : List ℕ) → out ≡ rows 0 ++ drop (row_bytes pixel_lanes crop.width * 0) out
  unfolding cropped_rows
  rows_none out = rw mul-zero

  -- a turn of the loop that copies
  pub rows_turn : (out out₀ : List ℕ) (i : ℕ) → i < crop.height → out ≡ rows i ++ drop (row_bytes pixel_lanes crop.width * i) out₀
      → take (row_bytes pixel_lanes crop.width * i) out ++ (stripe i ++ drop (row_bytes pixel_lanes crop.width * i + length (stripe i)) out)
      ≡ rows (i + 1) ++ drop (row_bytes pixel_lanes crop.width * (i + 1)) out₀
  unfolding cropped_rows
  rows_turn out out₀ i h e =
      let n : row_bytes pixel_lanes crop.width * i + length (stripe i) ≡ row_bytes pixel_lanes crop.width * (i + 1) = omega (arith, stripe_length i h) in
      stretch (rows i) (stripe i) out out₀ (row_bytes pixel_lanes crop.width * i) (length (stripe i)) (rows_length i (omega arith)) e
      ∙ ap₂ (λ (s : List ℕ) (k : ℕ). s ++ drop k out₀) (ap rows (sym (add-one i))) n

  pub rows_done : (out out₀ : List ℕ) → length out₀ ≡ picture_bytes pixel_lanes crop.width crop.height → out ≡ rows crop.height ++ drop (row_bytes pixel_lanes crop.width * crop.height) out₀ → out ≡ cropped source crop pixels
  unfolding cropped
  rows_done out out₀ h e =
      let d : drop (row_bytes pixel_lanes crop.width * crop.height) out₀ ≡ [] = drop_of_length-le out₀ {i = row_bytes pixel_lanes crop.width * crop.height} (omega arith) in
      e ∙ rw (d, append-nil)

  pub cropped_length : length (cropped source crop pixels) ≡ picture_bytes pixel_lanes crop.width crop.height
  unfolding cropped
  cropped_length = rows_length crop.height (omega arith)
