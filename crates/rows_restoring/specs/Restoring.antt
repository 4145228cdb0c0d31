-- An output row is restored and packed (SCOPE, "A row goes out" and "Lanes"): when it is refused, the row and its alpha flag. m is the
-- target's width; the buffer holds the lanes B, G, R, A, pixel after pixel. Assumes nothing.
use Rattle.std.specs.Prelude.{ℕ, Bool, List, [], ◌∷◌, length, get_or}
use Rattle.arithmetic.specs.Table.{tabulate}
use Rattle.pixels_layout.specs.declared.PixelLayout.{PixelLayout}
use Rattle.pixels.specs.declared.Refusal.TheVariants.{InvalidDimensions, OutputLength}
use Rattle.pixels.specs.Refusals.{Cause, cause, first, other_length, flag_if, buffer_if}
use Rattle.pixels.specs.Sizes.{pixel_lanes, row_bytes, bad_side}
use Rattle.pixels_layout.specs.Lanes.{restored_place}
use Rattle.pixels_alpha.specs.Alpha.{has_alpha}

-- 1, then 4
abbrev pub restore_causes : ℕ → ℕ → List Cause
restore_causes m outBytes =
    cause (bad_side m) InvalidDimensions ∷ other_length outBytes (row_bytes pixel_lanes m) OutputLength ∷ []

-- 0 where the row is restored
unfoldable pub restore_number : ℕ → ℕ → ℕ
restore_number m outBytes = first (restore_causes m outBytes)

-- the row restored and packed
unfoldable pub restored_row : PixelLayout → ℕ → List ℕ → List ℕ
restored_row layout m out = tabulate (restored_place layout (λ x. get_or out x 0)) (row_bytes pixel_lanes m)

-- the buffer, and the flag of what is in it
unfoldable pub restored_out : PixelLayout → ℕ → List ℕ → List ℕ
restored_out layout m out = buffer_if (restore_number m (length out)) (restored_row layout m out) out

unfoldable pub row_flag : PixelLayout → ℕ → List ℕ → Bool
row_flag layout m out = flag_if (restore_number m (length out)) (has_alpha layout (restored_row layout m out) m)
