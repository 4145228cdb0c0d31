-- The crop (SCOPE, "Lanes" and "Beside the job"): the window of a row, the rows of a crop, and the numbers of `crop`. Assumes nothing.
use Rattle.std.specs.Prelude.{ℕ, zero, suc, ◌+◌, ◌*◌, Bool, cond, List, [], ◌∷◌, ◌++◌, leb, length, take, drop}
use Rattle.pixels.specs.declared.Dimensions.{Dimensions}
use Rattle.pixels.specs.declared.Rect.{Rect}
use Rattle.pixels_layout.specs.declared.PixelLayout.{PixelLayout}
use Rattle.pixels.specs.declared.Refusal.TheVariants.{PixelBufferMismatch, OutputLength}
use Rattle.pixels.specs.Refusals.{Cause, first, other_length, flag_if, buffer_if}
use Rattle.pixels_alpha.specs.Alpha.{has_alpha}
use Rattle.pixels.specs.Sizes.{pixel_lanes, row_bytes, picture_bytes, sizes_causes}

-- ---- "the cropped stretch handed back is a part of that same row": w pixels from pixel x on, and the empty part where they do not lie in the row
unfoldable pub window_of : ℕ → List ℕ → ℕ → ℕ → List ℕ
window_of lanes row x w = cond (leb (row_bytes lanes (x + w)) (length row)) (take (row_bytes lanes w) (drop (row_bytes lanes x) row)) []

-- row c of a picture w pixels wide
unfoldable pub picture_row : ℕ → List ℕ → ℕ → ℕ → List ℕ
picture_row lanes pixels w c = take (row_bytes lanes w) (drop (row_bytes lanes w * c) pixels)

-- ---- "`crop` copies rows": the windows of the crop's first n rows
unfoldable pub cropped_rows : List ℕ → ℕ → Rect → ℕ → List ℕ
cropped_rows pixels w crop zero = []
cropped_rows pixels w crop (suc n) =
    cropped_rows pixels w crop n ++ window_of pixel_lanes (picture_row pixel_lanes pixels w (crop.y + n)) crop.x crop.width

unfoldable pub cropped : Dimensions → Rect → List ℕ → List ℕ
cropped source crop pixels = cropped_rows pixels source.width crop crop.height

-- 1 to 4 ascending, of n bytes of pixels and m of output
abbrev pub crop_causes : Dimensions → Rect → ℕ → ℕ → List Cause
crop_causes source crop n m =
    sizes_causes source crop source
    ++ (other_length n (picture_bytes pixel_lanes source.width source.height) PixelBufferMismatch
    ∷ other_length m (picture_bytes pixel_lanes crop.width crop.height) OutputLength
    ∷ [])

unfoldable pub crop_number : Dimensions → Rect → ℕ → ℕ → ℕ
crop_number source crop n m = first (crop_causes source crop n m)

-- the output afterwards; "and computes the flag anew"
unfoldable pub crop_out : Dimensions → Rect → List ℕ → List ℕ → List ℕ
crop_out source crop pixels out = buffer_if (crop_number source crop (length pixels) (length out)) (cropped source crop pixels) out

unfoldable pub crop_flag : Dimensions → PixelLayout → Rect → List ℕ → ℕ → Bool
crop_flag source layout crop pixels m =
    flag_if (crop_number source crop (length pixels) m) (has_alpha layout (cropped source crop pixels) (crop.width * crop.height))
