-- The rows of a preview as closed expressions of the source's bytes, b i being byte i (SCOPE, "A row comes in", "A row goes out", "The list of demand 3", "The job" and
-- "Lanes"). No call, no record and no work value is mentioned. Assumes nothing.
use Rattle.std.specs.Prelude.{ℕ, zero, suc, ◌+◌, ◌*◌, ◌/◌, ◌%◌, Bool, false, List, [], ◌∷◌, ◌++◌, get_or}
use Rattle.arithmetic.specs.Table.{tabulate}
use Rattle.arithmetic.specs.Matte.{lane_of, pixel_of, mult_argb}
use Rattle.pixels.specs.declared.Dimensions.{Dimensions}
use Rattle.pixels.specs.declared.Rect.{Rect}
use Rattle.pixels_layout.specs.declared.PixelLayout.{PixelLayout}
use Rattle.pixels.specs.Sizes.{row_bytes, rect_of}
use Rattle.rows_form.specs.declared.RowForm.{RowForm}
use Rattle.rows_form.specs.declared.RowForm.TheVariants.{Pixels, Plain}
use Rattle.rows_form.specs.Form.{place_in, place_out}
use Rattle.pixels_alpha.specs.Alpha.{has_alpha}
use Rattle.rows.specs.Closed.{scaled}
use Rattle.job_rules.specs.declared.Plan.{Plan}
use Rattle.job_rules.specs.Rules.{lanes_of, form_of, plan_of}

-- lane k of crop row c, pixel i, as it stands in the source: "rows and columns counted from the crop's corner"
abbrev pub source_byte : Plan → (ℕ → ℕ) → ℕ → ℕ → ℕ → ℕ
source_byte p b c i k = b (row_bytes (lanes_of p) p.source.width * (p.crop.y + c) + (lanes_of p * (p.crop.x + i) + place_in (form_of p) k))

-- what the scaler reads of a pixel whose lanes are `bytes`: "The matted bytes are the accepted rows inside the crop after mult_argb (matte)"; a plane's lanes are
-- read as they are, a byte being its own remainder by 256
abbrev pub read_as : RowForm → (ℕ → ℕ) → ℕ → ℕ
read_as (Pixels layout) bytes k = lane_of (mult_argb (pixel_of bytes) false) k
read_as (Plain lanes) bytes k = bytes k % 256

unfoldable pub read_byte : Plan → (ℕ → ℕ) → ℕ → ℕ → ℕ → ℕ
read_byte p b k c i = read_as (form_of p) (source_byte p b c i) k

-- the byte at place x of output row y, before it is restored: lane x % lanes, column x / lanes
unfoldable pub scaled_lane : Plan → (ℕ → ℕ) → ℕ → ℕ → ℕ
scaled_lane p b y x =
    scaled p.crop.width p.target.width p.crop.height p.target.height (read_byte p b (x % lanes_of p)) (x / lanes_of p) y

-- output row y: a picture's "restored and packed", a plane's as it is
unfoldable pub row_of : Plan → (ℕ → ℕ) → ℕ → List ℕ
row_of p b y = tabulate (place_out (form_of p) (scaled_lane p b y)) (row_bytes (lanes_of p) p.target.width)

-- rows one after another
unfoldable pub joined : List (List ℕ) → List ℕ
joined [] = []
joined (row ∷ rows) = row ++ joined rows

-- the first n output rows, one after another
unfoldable pub rows_of : Plan → (ℕ → ℕ) → ℕ → List ℕ
rows_of p b zero = []
rows_of p b (suc n) = rows_of p b n ++ row_of p b n

-- ---- `resize`: "a job with the full crop"
abbrev pub full_crop : Dimensions → Rect
full_crop size = rect_of 0 0 size.width size.height

abbrev pub resize_plan : Dimensions → PixelLayout → Dimensions → Plan
resize_plan size layout target = plan_of size layout (full_crop size) target

-- its pixels
unfoldable pub resized : Dimensions → PixelLayout → Dimensions → List ℕ → List ℕ
resized size layout target pixels = rows_of (resize_plan size layout target) (λ i. get_or pixels i 0) target.height

-- its flag: "true if any alpha byte isn't 255"
unfoldable pub resized_flag : Dimensions → PixelLayout → Dimensions → List ℕ → Bool
resized_flag size layout target pixels =
    has_alpha layout (resized size layout target pixels) (target.width * target.height)
