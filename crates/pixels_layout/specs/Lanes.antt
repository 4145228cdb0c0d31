-- What the scaler reads of a row of packed pixels, and what is packed of the bytes that it makes (SCOPE, "Lanes", "A row goes out" and "The list of demand 3").
-- Lanes count 0 blue, 1 green, 2 red, 3 alpha. Assumes nothing.
use Rattle.std.specs.Prelude.{ℕ, ◌+◌, ◌*◌, true, false, List}
use Rattle.arithmetic.specs.Matte.{lane_of, pixel_of, mult_argb}
use Rattle.pixels_layout.specs.declared.PixelLayout.{PixelLayout}
use Rattle.pixels.specs.Sizes.{pixel_lanes}
use Rattle.pixels_layout.specs.Layout.{pixel_at, packed_byte}

-- "The matted bytes": lane k of pixel i of the row s after mult_argb (matte)
unfoldable pub matted : PixelLayout → List ℕ → ℕ → ℕ → ℕ
matted layout s k i = lane_of (mult_argb (pixel_at layout s i) false) k

-- "Pixels are then restored": pixel j of lane values that stand B, G, R, A, pixel after pixel, after mult_argb (restore)
unfoldable pub restored_pixel : (ℕ → ℕ) → ℕ → ℕ
restored_pixel v j = mult_argb (pixel_of (λ k. v (pixel_lanes * j + k))) true

-- "and packed": byte x of the packed row
unfoldable pub restored_place : PixelLayout → (ℕ → ℕ) → ℕ → ℕ
restored_place layout v x = packed_byte layout (restored_pixel v) x
