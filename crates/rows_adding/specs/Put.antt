-- What `put_row` promises (SCOPE, "A row comes in"; "Why a call is turned away"): its number, and the work rows afterwards. Assumes nothing.
use Rattle.std.specs.Prelude.{ℕ, List, [], ◌∷◌, length}
use Rattle.pixels.specs.declared.Dimensions.{Dimensions}
use Rattle.pixels.specs.declared.Refusal.TheVariants.{PixelBufferMismatch}
use Rattle.pixels.specs.Refusals.{Cause, first, other_length, few_work, buffer_if}
use Rattle.pixels.specs.Sizes.{row_bytes, work_values, wrong_size, wrong_lanes}
use Rattle.rows_form.specs.declared.RowForm.{RowForm}
use Rattle.rows_form.specs.Form.{lanes_in, lane_in}
use Rattle.rows.specs.Lanes.{row_value}
use Rattle.rows.specs.WorkRows.{scale_of, row_in}

-- a crop row of so many lanes and `bytes` bytes, in `room` work values: 1, 10, 3 and 5
abbrev pub put_causes : ℕ → Dimensions → Dimensions → ℕ → ℕ → List Cause
put_causes lanes crop target bytes room =
    wrong_size crop
    ∷ wrong_size target
    ∷ wrong_lanes lanes
    ∷ other_length bytes (row_bytes lanes crop.width) PixelBufferMismatch
    ∷ few_work room (work_values lanes target.width)
    ∷ []

-- 0 where none applies
unfoldable pub put_number : ℕ → Dimensions → Dimensions → ℕ → ℕ → ℕ
put_number lanes crop target bytes room = first (put_causes lanes crop target bytes room)

-- the values of a crop row: its lanes, each alone
abbrev pub put_value : RowForm → Dimensions → Dimensions → List ℕ → ℕ → ℕ
put_value form crop target row = row_value (lanes_in form) (lane_in form row) crop.width target.width

-- the work rows after the call: as they were where it is turned away
unfoldable pub put_work : RowForm → Dimensions → Dimensions → ℕ → List ℕ → List ℕ → List ℕ
put_work form crop target c row work =
    buffer_if (put_number (lanes_in form) crop target (length row) (length work))
    (row_in (scale_of (lanes_in form) crop target) c (put_value form crop target row) work)
    work
