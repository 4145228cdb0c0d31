-- The layouts (SCOPE, "Lanes"; "Why a call is turned away" for the length of packing): where each lane of a pixel AARRGGBB stands among its bytes. Lanes count from the lowest byte of the number:
-- 0 is blue, 1 green, 2 red, 3 alpha. Assumes nothing.
use Rattle.std.specs.Prelude.{ℕ, ◌+◌, ◌*◌, ◌/◌, ◌%◌, List, [], ◌∷◌, length, get_or}
use Rattle.arithmetic.specs.Matte.{lane_of, pixel_of}
use Rattle.arithmetic.specs.Table.{tabulate}
use Rattle.pixels_layout.specs.declared.PixelLayout.{PixelLayout}
use Rattle.pixels_layout.specs.declared.PixelLayout.TheVariants.{Rgba8, Argb8, Bgra8}
use Rattle.pixels_layout.specs.declared.Places.{Places}
use Rattle.pixels.specs.declared.Refusal.TheVariants.{OutputLength}
use Rattle.pixels.specs.Refusals.{first, other_length, buffer_if}
use Rattle.pixels.specs.Sizes.{pixel_lanes}

-- the table's rows: Rgba8, Argb8, Bgra8
abbrev pub row_of : PixelLayout → ℕ
row_of Rgba8 = 0
row_of Argb8 = 1
row_of Bgra8 = 2

-- "The lane orders stand in one table of three rows": the place of each lane. Each row is its own inverse, so it also says which lane a place has.
abbrev pub lane_places : List (List ℕ)
lane_places = (2 ∷ 1 ∷ 0 ∷ 3 ∷ []) ∷ (3 ∷ 2 ∷ 1 ∷ 0 ∷ []) ∷ (0 ∷ 1 ∷ 2 ∷ 3 ∷ []) ∷ []

abbrev pub place_of : PixelLayout → ℕ → ℕ
place_of layout k = get_or (get_or lane_places (row_of layout) []) k 0

abbrev pub alpha_lane : ℕ
alpha_lane = 3

abbrev pub places_of : PixelLayout → Places
places_of layout =
    record { b = place_of layout 0; g = place_of layout 1; r = place_of layout 2; a = place_of layout alpha_lane }

-- lane k of pixel i of the bytes s
abbrev pub lane_at : PixelLayout → List ℕ → ℕ → ℕ → ℕ
lane_at layout s i k = get_or s (pixel_lanes * i + place_of layout k) 0

-- the alpha byte of pixel i
abbrev pub alpha_at : PixelLayout → List ℕ → ℕ → ℕ
alpha_at layout s i = lane_at layout s i alpha_lane

-- pixel i of the bytes s, as the number AARRGGBB
unfoldable pub pixel_at : PixelLayout → List ℕ → ℕ → ℕ
pixel_at layout s i = pixel_of (lane_at layout s i)

-- what four bytes unpack to, and what a pixel packs to
unfoldable pub unpacked : PixelLayout → List ℕ → ℕ
unpacked layout s = pixel_at layout s 0

unfoldable pub packed : PixelLayout → ℕ → List ℕ
packed layout argb = tabulate (λ j. lane_of argb (place_of layout j)) pixel_lanes

-- whole slices: trailing bytes that make no pixel are ignored
unfoldable pub unpacked_pixels : PixelLayout → List ℕ → List ℕ
unpacked_pixels layout s = tabulate (pixel_at layout s) (length s / pixel_lanes)

-- byte x of packed pixels: of pixel x / lanes, at its place x % lanes
unfoldable pub packed_byte : PixelLayout → (ℕ → ℕ) → ℕ → ℕ
packed_byte layout p x = lane_of (p (x / pixel_lanes)) (place_of layout (x % pixel_lanes))

unfoldable pub packed_pixels : PixelLayout → List ℕ → List ℕ
packed_pixels layout argb = tabulate (packed_byte layout (λ i. get_or argb i 0)) (pixel_lanes * length argb)

-- "its output holds exactly length / 4 values, else 4", of n bytes and m values of output
unfoldable pub unpack_number : ℕ → ℕ → ℕ
unpack_number n m = first (other_length m (n / pixel_lanes) OutputLength ∷ [])

-- "4 × pixels for packing", of n pixels and m bytes of output
unfoldable pub pack_number : ℕ → ℕ → ℕ
pack_number n m = first (other_length m (pixel_lanes * n) OutputLength ∷ [])

-- the outputs afterwards
unfoldable pub unpack_out : PixelLayout → List ℕ → List ℕ → List ℕ
unpack_out layout s out = buffer_if (unpack_number (length s) (length out)) (unpacked_pixels layout s) out

unfoldable pub pack_out : PixelLayout → List ℕ → List ℕ → List ℕ
pack_out layout argb out = buffer_if (pack_number (length argb) (length out)) (packed_pixels layout argb) out
