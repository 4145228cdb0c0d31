-- What the private functions of src/lib.rt do to a row of lanes, pixel by pixel. The public promises are those of Restoring. Assumes nothing.
use Rattle.std.specs.Prelude.{ℕ, ◌+◌, ◌*◌, ◌/◌, ◌%◌, true, List, ◌++◌, length, get_or, set, drop}
use Rattle.arithmetic.specs.Matte.{lane_of, pixel_of, factor_of, cut_colour}
use Rattle.arithmetic.specs.Table.{tabulate}
use Rattle.pixels_layout.specs.declared.PixelLayout.{PixelLayout}
use Rattle.pixels_layout.specs.declared.PixelLayout.TheVariants.{Bgra8}
use Rattle.pixels_layout.specs.Lanes.{restored_place}
use Rattle.pixels.specs.Sizes.{pixel_lanes, row_bytes}
use Rattle.pixels_layout.specs.Layout.{alpha_lane, place_of}

-- how many pixels a row of lanes has
abbrev pub pixels_in : List ℕ → ℕ
pixels_in s = length s / pixel_lanes

-- a row of lanes with byte x of its pixels f x; what is no whole pixel stays
abbrev pub pixels_made : (ℕ → ℕ) → List ℕ → List ℕ
pixels_made f s =
    tabulate f (row_bytes pixel_lanes (pixels_in s)) ++ drop (row_bytes pixel_lanes (pixels_in s)) s

-- the alpha of pixel j of a row of lanes
abbrev pub alpha_in : List ℕ → ℕ → ℕ
alpha_in s j = get_or s (pixel_lanes * j + alpha_lane) 0

-- colour k of the pixel whose lanes stand from place x on, restored by its alpha
unfoldable pub restored_at : List ℕ → ℕ → ℕ → ℕ
restored_at s x k = cut_colour (get_or s (x + k) 0) (factor_of true (get_or s (x + alpha_lane) 0))

-- the colours v 0 to v 2 stored from place x on
unfoldable pub put_colours : List ℕ → ℕ → (ℕ → ℕ) → List ℕ
put_colours s x v = set (set (set s x (v 0)) (x + 1) (v 1)) (x + 2) (v 2)

-- every pixel of a row of lanes restored
abbrev pub restored_bytes : List ℕ → List ℕ
restored_bytes s = pixels_made (restored_place Bgra8 (λ x. get_or s x 0)) s

-- byte x of a row of lanes B, G, R, A in the order of a layout
unfoldable pub ordered_byte : PixelLayout → List ℕ → ℕ → ℕ
ordered_byte layout s x = get_or s (pixel_lanes * (x / pixel_lanes) + place_of layout (x % pixel_lanes)) 0

-- every pixel of a row in the order of a layout
abbrev pub ordered_bytes : PixelLayout → List ℕ → List ℕ
ordered_bytes layout s = pixels_made (ordered_byte layout s) s

-- the pixel AARRGGBB whose lanes stand from place x on
unfoldable pub word_at : List ℕ → ℕ → ℕ
word_at s x = pixel_of (λ k. get_or s (x + k) 0)

-- the lanes v 0 to v 3 stored from place x on
unfoldable pub put_lanes : List ℕ → ℕ → (ℕ → ℕ) → List ℕ
put_lanes s x v = set (set (set (set s x (v 0)) (x + 1) (v 1)) (x + 2) (v 2)) (x + 3) (v 3)

-- a pixel AARRGGBB with its lanes in the order of a layout
unfoldable pub ordered_word : PixelLayout → ℕ → ℕ
ordered_word layout argb = pixel_of (λ k. lane_of argb (place_of layout k))
