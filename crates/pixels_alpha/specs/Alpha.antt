-- The alpha of a whole picture (SCOPE, "Lanes" and "Beside the job"): its flag, its length, and apply_alpha_plane. Assumes nothing.
use Rattle.std.specs.Prelude.{ℕ, zero, suc, ◌*◌, ◌/◌, ◌%◌, Bool, false, cond, not, ◌||◌, List, [], ◌∷◌, ◌++◌, eqb, length, get_or}
use Rattle.arithmetic.specs.Matte.{lane_of}
use Rattle.arithmetic.specs.Table.{tabulate}
use Rattle.pixels.specs.declared.Dimensions.{Dimensions}
use Rattle.pixels_layout.specs.declared.PixelLayout.{PixelLayout}
use Rattle.pixels.specs.declared.Refusal.TheVariants.{PixelBufferMismatch}
use Rattle.pixels.specs.Refusals.{Cause, first, other_length, flag_if, buffer_if}
use Rattle.pixels.specs.Sizes.{pixel_lanes, picture_bytes, wrong_size}
use Rattle.pixels_layout.specs.Layout.{alpha_lane, place_of, alpha_at}

-- whether some of the alphas a 0, a 1, .. of n pixels isn't 255
unfoldable pub some_clear : (ℕ → ℕ) → ℕ → Bool
some_clear a zero = false
some_clear a (suc n) = some_clear a n || not (eqb (a n) 255)

-- "The alpha flag is true if any alpha byte isn't 255": of the first n pixels of the bytes s
unfoldable pub has_alpha : PixelLayout → List ℕ → ℕ → Bool
has_alpha layout s n = some_clear (alpha_at layout s) n

-- the same of pixels AARRGGBB
unfoldable pub argb_has_alpha : List ℕ → Bool
argb_has_alpha argb = some_clear (λ i. lane_of (get_or argb i 0) alpha_lane) (length argb)

-- ---- a picture of its size in n bytes: 1, then 3
abbrev pub picture_causes : Dimensions → ℕ → List Cause
picture_causes size n =
    wrong_size size
    ∷ other_length n (picture_bytes pixel_lanes size.width size.height) PixelBufferMismatch
    ∷ []

unfoldable pub picture_number : Dimensions → ℕ → ℕ
picture_number size n = first (picture_causes size n)

-- its flag
unfoldable pub picture_flag : Dimensions → PixelLayout → List ℕ → Bool
picture_flag size layout pixels = flag_if (picture_number size (length pixels)) (has_alpha layout pixels (size.width * size.height))

-- ---- "`apply_alpha_plane` writes only alpha bytes": byte x is the plane's byte of its pixel at the alpha place a, and itself elsewhere
unfoldable pub alpha_byte : ℕ → List ℕ → List ℕ → ℕ → ℕ
alpha_byte a pixels plane x = cond (eqb (x % pixel_lanes) a) (get_or plane (x / pixel_lanes) 0) (get_or pixels x 0)

unfoldable pub with_alpha : PixelLayout → List ℕ → List ℕ → List ℕ
with_alpha layout pixels plane = tabulate (alpha_byte (place_of layout alpha_lane) pixels plane) (length pixels)

-- 1, then 3 for pixels or plane of another length
abbrev pub alpha_causes : Dimensions → ℕ → ℕ → List Cause
alpha_causes size n m = picture_causes size n ++ (other_length m (size.width * size.height) PixelBufferMismatch ∷ [])

unfoldable pub alpha_number : Dimensions → ℕ → ℕ → ℕ
alpha_number size n m = first (alpha_causes size n m)

-- the picture afterwards, and its flag
unfoldable pub alpha_pixels : Dimensions → PixelLayout → List ℕ → List ℕ → List ℕ
alpha_pixels size layout pixels plane = buffer_if (alpha_number size (length pixels) (length plane)) (with_alpha layout pixels plane) pixels

unfoldable pub alpha_flag : Dimensions → PixelLayout → List ℕ → List ℕ → Bool
alpha_flag size layout pixels plane =
    flag_if (alpha_number size (length pixels) (length plane)) (has_alpha layout (with_alpha layout pixels plane) (size.width * size.height))
