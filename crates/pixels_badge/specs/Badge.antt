-- A club badge over a background (SCOPE, "A badge over a background"; document 02, 8): "For badge alpha 0 the background stays; for 255 the badge replaces it.
-- Between those, each colour is the badge colour matted by its alpha plus the background colour matted by 255 less that alpha, and the result is opaque."
-- Lanes count 0 blue, 1 green, 2 red, 3 alpha. Assumes nothing.
use Rattle.std.specs.Prelude.{ℕ, ◌+◌, ◌-◌, ◌*◌, ◌/◌, ◌%◌, Bool, cond, not, ◌||◌, List, [], ◌∷◌, ◌++◌, eqb, length}
use Rattle.arithmetic.specs.Matte.{matte_factor, scale_colour}
use Rattle.arithmetic.specs.Table.{tabulate}
use Rattle.pixels.specs.declared.Dimensions.{Dimensions}
use Rattle.pixels.specs.declared.Refusal.TheVariants.{PixelBufferMismatch, UnequalSizes, BackgroundNotOpaque}
use Rattle.pixels.specs.Refusals.{Cause, cause, first, other_length, buffer_if}
use Rattle.pixels.specs.Sizes.{pixel_lanes, picture_bytes, wrong_size}
use Rattle.pixels_layout.specs.declared.PixelLayout.{PixelLayout}
use Rattle.pixels_layout.specs.Layout.{alpha_lane, place_of, lane_at, alpha_at}
use Rattle.pixels_alpha.specs.Alpha.{has_alpha}

-- a colour matted by an alpha
unfoldable pub matted : ℕ → ℕ → ℕ
matted c a = scale_colour c (matte_factor a)

-- "the badge colour matted by its alpha plus the background colour matted by 255 less that alpha": alpha a, badge colour c, background colour d
unfoldable pub blended : ℕ → ℕ → ℕ → ℕ
blended a c d = matted c a + matted d (255 - a)

-- lane k of a pixel: a is the badge's alpha, c the badge's lane k, d the background's
unfoldable pub laid_of : ℕ → ℕ → ℕ → ℕ → ℕ
laid_of k a c d = cond (eqb a 0) d (cond (eqb a 255) c (cond (eqb k alpha_lane) 255 (blended a c d)))

-- lane k of pixel i: the badge in its layout over the background in its own
abbrev pub laid_lane : PixelLayout → List ℕ → PixelLayout → List ℕ → ℕ → ℕ → ℕ
laid_lane layout pixels from badge i k = laid_of k (alpha_at from badge i) (lane_at from badge i k) (lane_at layout pixels i k)

-- "The badge may have another layout than the background, whose layout the result takes": byte x of the result, whose lane the layout's table tells
unfoldable pub laid_byte : PixelLayout → List ℕ → PixelLayout → List ℕ → ℕ → ℕ
laid_byte layout pixels from badge x = laid_lane layout pixels from badge (x / pixel_lanes) (place_of layout (x % pixel_lanes))

unfoldable pub laid : PixelLayout → List ℕ → PixelLayout → List ℕ → List ℕ
laid layout pixels from badge = tabulate (laid_byte layout pixels from badge) (length pixels)

-- ---- the number: 1 for either size, 3 for either buffer; "Unequal sizes are 15 and a background that isn't opaque is 16, in that order straight after 3"

-- 1 and 3, of a background of n bytes and a badge of m
abbrev pub both_causes : Dimensions → ℕ → Dimensions → ℕ → List Cause
both_causes size n badgeSize m =
    wrong_size size
    ∷ wrong_size badgeSize
    ∷ other_length n (picture_bytes pixel_lanes size.width size.height) PixelBufferMismatch
    ∷ other_length m (picture_bytes pixel_lanes badgeSize.width badgeSize.height) PixelBufferMismatch
    ∷ []

unfoldable pub both_number : Dimensions → ℕ → Dimensions → ℕ → ℕ
both_number size n badgeSize m = first (both_causes size n badgeSize m)

abbrev pub other_size : Dimensions → Dimensions → Bool
other_size a b = not (eqb a.width b.width) || not (eqb a.height b.height)

-- 15 and 16
abbrev pub lay_causes : Dimensions → PixelLayout → List ℕ → Dimensions → List Cause
lay_causes size layout pixels badgeSize =
    cause (other_size size badgeSize) UnequalSizes
    ∷ cause (has_alpha layout pixels (size.width * size.height)) BackgroundNotOpaque
    ∷ []

abbrev pub badge_causes : Dimensions → PixelLayout → List ℕ → Dimensions → ℕ → List Cause
badge_causes size layout pixels badgeSize m = both_causes size (length pixels) badgeSize m ++ lay_causes size layout pixels badgeSize

unfoldable pub badge_number : Dimensions → PixelLayout → List ℕ → Dimensions → ℕ → ℕ
badge_number size layout pixels badgeSize m = first (badge_causes size layout pixels badgeSize m)

-- the background afterwards
unfoldable pub badge_out : Dimensions → PixelLayout → List ℕ → Dimensions → PixelLayout → List ℕ → List ℕ
badge_out size layout pixels badgeSize from badge = buffer_if (badge_number size layout pixels badgeSize (length badge)) (laid layout pixels from badge) pixels
