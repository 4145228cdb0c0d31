-- A source row comes in (SCOPE, "A row comes in" and "The job"): its number, and the work rows afterwards. s is the row's place in the source. Assumes nothing.
use Rattle.std.specs.Prelude.{ℕ, ◌+◌, ◌-◌, Bool, cond, ◌&&◌, List, length, leb, ltb}
use Rattle.pixels.specs.declared.Dimensions.{Dimensions}
use Rattle.pixels.specs.declared.Rect.{Rect}
use Rattle.pixels.specs.Sizes.{size_of}
use Rattle.pixels_crop.specs.Crop.{window_of}
use Rattle.rows_form.specs.declared.RowForm.{RowForm}
use Rattle.rows_form.specs.Form.{lanes_in}
use Rattle.rows_adding.specs.Put.{put_number, put_work}

-- source row s is inside the crop's height
abbrev pub in_crop : Rect → ℕ → Bool
in_crop crop s = leb crop.y s && ltb s (crop.y + crop.height)

-- its crop window
abbrev pub part_of : ℕ → Rect → List ℕ → List ℕ
part_of lanes crop row = window_of lanes row crop.x crop.width

-- that of the window put; 0 outside the crop
unfoldable pub in_number : ℕ → Rect → Dimensions → ℕ → List ℕ → ℕ → ℕ
in_number lanes crop target s row room =
    cond (in_crop crop s) (put_number lanes (size_of crop.width crop.height) target (length (part_of lanes crop row)) room) 0

-- "Rows outside the crop count and touch no work value"
unfoldable pub in_work : RowForm → Rect → Dimensions → ℕ → List ℕ → List ℕ → List ℕ
in_work form crop target s row work =
    cond (in_crop crop s) (put_work form (size_of crop.width crop.height) target (s - crop.y) (part_of (lanes_in form) crop row) work) work
