-- An output row goes out, whole (SCOPE, "A row goes out", "then restored and packed"): when it is refused, the row, its alpha flag and the work rows
-- afterwards. k source rows are accepted, y is SCOPE's Y. Assumes nothing.
use Rattle.std.specs.Prelude.{ℕ, Bool, List, length}
use Rattle.arithmetic.specs.Table.{tabulate}
use Rattle.pixels.specs.declared.Dimensions.{Dimensions}
use Rattle.pixels.specs.declared.Rect.{Rect}
use Rattle.pixels.specs.Refusals.{flag_if, buffer_if}
use Rattle.pixels.specs.Sizes.{row_bytes, size_of}
use Rattle.rows_form.specs.declared.RowForm.{RowForm}
use Rattle.rows_form.specs.Form.{lanes_in, place_out, flag_in}
use Rattle.rows_schedule.specs.Schedule.{used}
use Rattle.rows.specs.WorkRows.{scale_of, byte_out}
use Rattle.rows_tests.specs.Tests.{scale_number}
use Rattle.rows_out.specs.Scaled.{scaled_work}

abbrev pub crop_size : Rect → Dimensions
crop_size crop = size_of crop.width crop.height

-- u, the crop rows used
abbrev pub used_of : Rect → ℕ → ℕ
used_of crop k = used crop.y crop.height k

-- 1, 10, 4, 5 and 9, of so many lanes, n bytes of output and w work values
abbrev pub out_number : ℕ → Rect → Dimensions → ℕ → ℕ → ℕ → ℕ → ℕ
out_number lanes crop target k y n w = scale_number lanes (crop_size crop) target (used_of crop k) y n w

-- the row: a picture's lanes restored and packed, a plane's as they are
unfoldable pub row_made : RowForm → Rect → Dimensions → ℕ → ℕ → List ℕ → List ℕ
row_made form crop target k y work =
    tabulate (place_out form (byte_out (scale_of (lanes_in form) (crop_size crop) target) (used_of crop k) y work)) (row_bytes (lanes_in form) target.width)

unfoldable pub out_flag : RowForm → Rect → Dimensions → ℕ → ℕ → ℕ → List ℕ → Bool
out_flag form crop target k y n work =
    flag_if (out_number (lanes_in form) crop target k y n (length work)) (flag_in form (row_made form crop target k y work) target.width)

-- the output and the work rows: as they were where the row is refused
unfoldable pub out_row : RowForm → Rect → Dimensions → ℕ → ℕ → List ℕ → List ℕ → List ℕ
out_row form crop target k y out work =
    buffer_if (out_number (lanes_in form) crop target k y (length out) (length work)) (row_made form crop target k y work) out

abbrev pub out_work : ℕ → Rect → Dimensions → ℕ → ℕ → ℕ → List ℕ → List ℕ
out_work lanes crop target k y n work = scaled_work lanes (crop_size crop) target (used_of crop k) y n work
