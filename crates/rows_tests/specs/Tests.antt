-- When a row is turned away (SCOPE, "Why a call is turned away"): of a crop row that comes in, and of an output row that goes out. Assumes nothing.
use Rattle.std.specs.Prelude.{ℕ, ◌+◌, not, ◌||◌, List, [], ◌∷◌, eqb}
use Rattle.pixels.specs.declared.Dimensions.{Dimensions}
use Rattle.pixels.specs.declared.Refusal.TheVariants.{InvalidDimensions, PixelBufferMismatch, OutputLength, NoneReady}
use Rattle.pixels.specs.Refusals.{Cause, cause, first, other_length, few_work}
use Rattle.pixels.specs.Sizes.{row_bytes, half_values, work_values, bad_side, wrong_size, wrong_lanes}
use Rattle.rows_due.specs.Due.{due}
use Rattle.rows_tests.specs.declared.RowScale.{RowScale}

-- a crop row of so many lanes, n wide in `bytes` bytes, to a target m wide in a half of `room` values: a width is 0 or above the limit; the lane count is none;
-- the row has another length; the half is too short
abbrev pub import_causes : ℕ → ℕ → ℕ → ℕ → ℕ → List Cause
import_causes lanes n m bytes room =
    cause (bad_side n || bad_side m) InvalidDimensions
    ∷ wrong_lanes lanes
    ∷ other_length bytes (row_bytes lanes n) PixelBufferMismatch
    ∷ few_work room (half_values lanes m)
    ∷ []

-- 0 where none applies
unfoldable pub import_number : ℕ → ℕ → ℕ → ℕ → ℕ → ℕ
import_number lanes n m bytes room = first (import_causes lanes n m bytes room)

-- output row y (SCOPE's Y) of so many lanes, of a crop and a target of these sizes, u crop rows used: 1, 10, 4, 5 and 9
abbrev pub scale_causes : ℕ → Dimensions → Dimensions → ℕ → ℕ → ℕ → ℕ → List Cause
scale_causes lanes crop target u y outBytes workCount =
    wrong_size crop
    ∷ wrong_size target
    ∷ wrong_lanes lanes
    ∷ other_length outBytes (row_bytes lanes target.width) OutputLength
    ∷ few_work workCount (work_values lanes target.width)
    ∷ cause (not (due crop.height target.height u y)) NoneReady
    ∷ []

-- 0 where the row is made
unfoldable pub scale_number : ℕ → Dimensions → Dimensions → ℕ → ℕ → ℕ → ℕ → ℕ
scale_number lanes crop target u y outBytes workCount = first (scale_causes lanes crop target u y outBytes workCount)

-- the same of a row of w values, whatever its lanes; 1 is a span or a crop height of 0
abbrev pub values_causes : RowScale → ℕ → ℕ → ℕ → ℕ → List Cause
values_causes s u y outBytes workCount =
    cause (eqb s.span 0) InvalidDimensions
    ∷ cause (eqb s.h 0) InvalidDimensions
    ∷ other_length outBytes s.w OutputLength
    ∷ few_work workCount (s.w + s.w)
    ∷ cause (not (due s.h s.g u y)) NoneReady
    ∷ []

unfoldable pub values_number : RowScale → ℕ → ℕ → ℕ → ℕ → ℕ
values_number s u y outBytes workCount = first (values_causes s u y outBytes workCount)
