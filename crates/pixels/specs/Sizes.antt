-- Sizes and lengths, and the numbers 1 and 2 of SCOPE's table ("Why a call is turned away"; "A row comes in" for the work rows, "Beside the job" for `scaled`).
-- Assumes nothing.
use Rattle.std.specs.Prelude.{ℕ, ◌+◌, ◌*◌, ◌≤◌, Bool, cond, ◌||◌, List, [], ◌∷◌, eqb, ltb}
use Rattle.arithmetic.specs.Quotient.{ceil}
use Rattle.pixels.specs.declared.Dimensions.{Dimensions}
use Rattle.pixels.specs.declared.Rect.{Rect}
use Rattle.pixels.specs.declared.Refusal.TheVariants.{InvalidDimensions, CropOutOfBounds, InvalidLanes}
use Rattle.pixels.specs.Refusals.{Cause, cause, first}

-- the largest side
abbrev pub max_side : ℕ
max_side = 16384

-- the lanes of a pixel: blue, green, red and alpha, a byte each
abbrev pub pixel_lanes : ℕ
pixel_lanes = 4

-- the most lanes of a plane: "a lane count from 1 to 4"
abbrev pub max_lanes : ℕ
max_lanes = 4

-- ---- lengths, of rows that have `lanes` lanes

-- the bytes of a row of w pixels
abbrev pub row_bytes : ℕ → ℕ → ℕ
row_bytes lanes w = lanes * w

-- the bytes of w by h pixels: h rows
abbrev pub picture_bytes : ℕ → ℕ → ℕ → ℕ
picture_bytes lanes w h = row_bytes lanes w * h

-- "Work rows are two halves of 4 × m values each", a value for each lane; "the work need count lanes in place of 4"
abbrev pub half_values : ℕ → ℕ → ℕ
half_values lanes m = lanes * m

abbrev pub work_values : ℕ → ℕ → ℕ
work_values lanes m = 2 * half_values lanes m

-- "a source or target side is 0 or above 16,384"
unfoldable pub bad_side : ℕ → Bool
bad_side side = eqb side 0 || ltb max_side side

unfoldable pub bad_size : Dimensions → Bool
bad_size size = bad_side size.width || bad_side size.height

-- "the crop is empty"
unfoldable pub empty_crop : Rect → Bool
empty_crop crop = eqb crop.width 0 || eqb crop.height 0

-- "crop's right or bottom edge beyond the picture"; "Edges are summed without wrapping"
unfoldable pub crop_beyond : Rect → Dimensions → Bool
crop_beyond crop size = ltb size.width (crop.x + crop.width) || ltb size.height (crop.y + crop.height)

-- ---- numbers 1, 2 and 10

-- 1 of one size
abbrev pub wrong_size : Dimensions → Cause
wrong_size size = cause (bad_size size) InvalidDimensions

unfoldable pub size_number : Dimensions → ℕ
size_number size = first (wrong_size size ∷ [])

-- 1 of a source, its crop and a target
abbrev pub bad_sizes : Dimensions → Rect → Dimensions → Bool
bad_sizes source crop target = bad_size source || bad_size target || empty_crop crop

abbrev pub wrong_sizes : Dimensions → Rect → Dimensions → Cause
wrong_sizes source crop target = cause (bad_sizes source crop target) InvalidDimensions

-- 2. A crop side above 16,384 is 2, since no source side is.
abbrev pub crop_outside : Rect → Dimensions → Cause
crop_outside crop source = cause (crop_beyond crop source) CropOutOfBounds

-- 10: "A lane count outside 1 to 4"
unfoldable pub bad_lanes : ℕ → Bool
bad_lanes lanes = eqb lanes 0 || ltb max_lanes lanes

abbrev pub wrong_lanes : ℕ → Cause
wrong_lanes lanes = cause (bad_lanes lanes) InvalidLanes

-- what every call that is lent a source, its crop and a target tests first; a plane's start has 10 between the two
abbrev pub sizes_causes : Dimensions → Rect → Dimensions → List Cause
sizes_causes source crop target = wrong_sizes source crop target ∷ crop_outside crop source ∷ []

unfoldable pub sizes_number : Dimensions → Rect → Dimensions → ℕ
sizes_number source crop target = first (sizes_causes source crop target)

-- what passing means: a side from 1 to 16,384; sizes of such sides, a crop that is not empty, its edges within the source
pub record Side (side : ℕ) : Type 0 where
  pub some : 1 ≤ side
  pub most : side ≤ max_side

-- a lane count from 1 to 4
pub record LaneCount (lanes : ℕ) : Type 0 where
  pub some : 1 ≤ lanes
  pub most : lanes ≤ max_lanes

pub record Fits (source : Dimensions) (crop : Rect) (target : Dimensions) : Type 0 where
  pub source_width : Side source.width
  pub source_height : Side source.height
  pub target_width : Side target.width
  pub target_height : Side target.height
  pub crop_width : 1 ≤ crop.width
  pub crop_height : 1 ≤ crop.height
  pub right : crop.x + crop.width ≤ source.width
  pub bottom : crop.y + crop.height ≤ source.height

abbrev pub size_of : ℕ → ℕ → Dimensions
size_of w h = record { width = w; height = h }

abbrev pub rect_of : ℕ → ℕ → ℕ → ℕ → Rect
rect_of x y w h = record { x = x; y = y; width = w; height = h }

-- a side as asked; one of 0 is derived from the other, in the ratio of the source's own side and the side across: "ceil(w×height/h)"
unfoldable pub derived_side : ℕ → ℕ → ℕ → ℕ → ℕ
derived_side own across side other = cond (eqb side 0) (ceil (own * other) across) side

-- "width 0 becomes ceil(w×height/h), then height 0 becomes ceil(h×width/w)"
abbrev pub scaled_width : Dimensions → ℕ → ℕ → ℕ
scaled_width source width height = derived_side source.width source.height width height

abbrev pub scaled_height : Dimensions → ℕ → ℕ → ℕ
scaled_height source width height =
    derived_side source.height source.width height (scaled_width source width height)

abbrev pub scaled_size : Dimensions → ℕ → ℕ → Dimensions
scaled_size source width height = size_of (scaled_width source width height) (scaled_height source width height)

-- "both 0, or a side above 16,384, gives 1", of the source too; both 0 gives sides of 0
unfoldable pub scaled_number : Dimensions → ℕ → ℕ → ℕ
scaled_number source width height = first (wrong_size source ∷ wrong_size (scaled_size source width height) ∷ [])
