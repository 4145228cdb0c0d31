-- What the private functions of src/lib.rt ask and do, a pixel as a word. The public promises are those of Badge. Assumes nothing.
use Rattle.std.specs.Prelude.{ℕ, ◌+◌, ◌*◌, ◌/◌, ◌%◌, ◌≤◌, ◌≡◌, false, cond, List, [], ◌∷◌, ◌++◌, eqb, length, get_or, set, drop}
use Rattle.arithmetic.specs.Matte.{lane_of, pixel_of}
use Rattle.arithmetic.specs.Table.{tabulate}
use Rattle.pixels.specs.Sizes.{pixel_lanes}
use Rattle.pixels_layout.specs.declared.PixelLayout.{PixelLayout}
use Rattle.pixels_layout.specs.Layout.{alpha_lane, place_of, lane_at, alpha_at}
use Rattle.pixels_alpha.specs.Alpha.{has_alpha}
use Rattle.pixels_badge.specs.Badge.{blended}

-- the word of the four bytes from place x on, the first the lowest: lane_of tells its bytes
unfoldable pub word_at : List ℕ → ℕ → ℕ
word_at s x = pixel_of (λ k. get_or s (x + k) 0)

-- the bytes of a word stored from place x on
unfoldable pub put_word : List ℕ → ℕ → ℕ → List ℕ
put_word s x w = set (set (set (set s x (lane_of w 0)) (x + 1) (lane_of w 1)) (x + 2) (lane_of w 2)) (x + 3) (lane_of w 3)

-- b, g, r, a are the lanes of the word of a pixel
pub record LanesAre (layout : PixelLayout) (w b g r a : ℕ) : Type 0 where
  pub blue : b ≡ lane_of w (place_of layout 0)
  pub green : g ≡ lane_of w (place_of layout 1)
  pub red : r ≡ lane_of w (place_of layout 2)
  pub alpha : a ≡ lane_of w (place_of layout alpha_lane)

-- the word of an opaque pixel: a layout's table is its own inverse, and so tells the lane of each byte too
unfoldable pub opaque_word : PixelLayout → ℕ → ℕ → ℕ → ℕ
opaque_word layout b g r = pixel_of (λ j. get_or (b ∷ g ∷ r ∷ 255 ∷ []) (place_of layout j) 0)

-- ---- a block of a badge, turned

-- a buffer of which the first n bytes are the table's
abbrev pub filled_by : (ℕ → ℕ) → ℕ → List ℕ → List ℕ
filled_by f n s = tabulate f n ++ drop n s

-- byte y of the alphas: that of its pixel at every second place
unfoldable pub alpha_in : PixelLayout → List ℕ → ℕ → ℕ
alpha_in from badge y = cond (eqb (y % 2) 0) (alpha_at from badge (y / pixel_lanes)) 0

-- byte y of the colours in the order of a layout; for the alpha 255
unfoldable pub colour_in : PixelLayout → PixelLayout → List ℕ → ℕ → ℕ
colour_in layout from badge y =
    cond (eqb (place_of layout (y % pixel_lanes)) alpha_lane) 255 (lane_at from badge (y / pixel_lanes) (place_of layout (y % pixel_lanes)))

-- whole pixels, and room for them
pub record TurnAsks (badge alphas colours : List ℕ) : Type 0 where
  pub whole : length badge ≡ pixel_lanes * (length badge / pixel_lanes)
  pub alphas_room : length badge ≤ length alphas
  pub colours_room : length badge ≤ length colours

-- ---- two bytes as a number
unfoldable pub pair_at : List ℕ → ℕ → ℕ
pair_at s x = get_or s x 0 + 256 * get_or s (x + 1) 0

unfoldable pub put_pair : List ℕ → ℕ → ℕ → List ℕ
put_pair s x v = set (set s x (v % 256)) (x + 1) (v / 256)

unfoldable pub blended_pair : ℕ → ℕ → ℕ → ℕ
blended_pair alpha over under = blended (alpha % 256) (over % 256) (under % 256) + 256 * blended (alpha % 256) (over / 256) (under / 256)

-- ---- a block of a background: byte y, by the alpha at the even place before it
unfoldable pub blended_in : List ℕ → List ℕ → List ℕ → ℕ → ℕ
blended_in pixels alphas colours y = blended (get_or alphas (2 * (y / 2)) 0) (get_or colours y 0) (get_or pixels y 0)

unfoldable pub blended_block : List ℕ → List ℕ → List ℕ → List ℕ
blended_block pixels alphas colours = tabulate (blended_in pixels alphas colours) (length pixels)

pub record BlockAsks (pixels alphas colours : List ℕ) : Type 0 where
  pub whole : length pixels ≡ 2 * (length pixels / 2)
  pub alphas_room : length pixels ≤ length alphas
  pub colours_room : length pixels ≤ length colours

-- the bytes of a block
abbrev pub block_bytes : ℕ
block_bytes = 256

-- two pictures of one length, whole pixels, the background opaque
pub record LayAsks (layout : PixelLayout) (pixels badge : List ℕ) : Type 0 where
  pub long : length pixels ≡ pixel_lanes * (length pixels / pixel_lanes)
  pub alike : length badge ≡ length pixels
  pub opaque : has_alpha layout pixels (length pixels / pixel_lanes) ≡ false
