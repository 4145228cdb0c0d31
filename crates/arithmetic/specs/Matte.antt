-- Matting and restoring a pixel AARRGGBB (SCOPE, "Fixed point and matting"; libwebp's WebPMultARGBRow_C). Assumes nothing.
use Rattle.std.specs.Prelude.{ℕ, suc, ◌+◌, ◌-◌, ◌*◌, ◌/◌, ◌%◌, ◌^◌, min, Bool, cond, List, ◌==◌, nat_lt, slice_index}
use Rattle.arithmetic.specs.Table.{tabulate}

-- lane k of a pixel AARRGGBB: 0 is blue, 1 green, 2 red, 3 alpha
unfoldable pub lane_of : ℕ → ℕ → ℕ
lane_of argb k = argb / 2 ^ (8 * k) % 256

-- the pixel AARRGGBB whose lane k is p k
unfoldable pub pixel_of : (ℕ → ℕ) → ℕ
pixel_of p = p 0 + 2 ^ 8 * p 1 + 2 ^ 16 * p 2 + 2 ^ 24 * p 3

-- "with k = 65793 × alpha (matte) or 255 × 2^24 / alpha (restore)"
unfoldable pub matte_factor : ℕ → ℕ
matte_factor a = 65793 * a

unfoldable pub restore_factor : ℕ → ℕ
restore_factor a = 255 * 2 ^ 24 / a

unfoldable pub factor_of : Bool → ℕ → ℕ
factor_of inverse a = cond inverse (restore_factor a) (matte_factor a)

-- "each colour c becomes (c × k + 2^23) / 2^24"
unfoldable pub scale_colour : ℕ → ℕ → ℕ
scale_colour c k = (c * k + 2 ^ 23) / 2 ^ 24

-- request 7: "Restored colours shall stop at 255 in their own lane." A matted colour is never above 255.
unfoldable pub cut_colour : ℕ → ℕ → ℕ
cut_colour c k = min (scale_colour c k) 255

-- lane i of a pixel whose colours are scaled by the factor k; the alpha stays
unfoldable pub mult_lane : ℕ → ℕ → ℕ → ℕ
mult_lane argb k i = cond (nat_lt i 3) (cut_colour (lane_of argb i) k) (lane_of argb i)

-- mult_argb: alpha 255 unchanged, alpha 0 gives 0, else the colours scaled by the factor of the alpha.
-- "The three results, shifted by 0, 8 and 16, are or-ed onto the alpha": none is above 255, so that the or is the sum of `pixel_of`.
unfoldable pub mult_argb : ℕ → Bool → ℕ
mult_argb argb inverse =
    let a : ℕ = lane_of argb 3 in
    cond (a == 255) argb (cond (a == 0) 0 (pixel_of (mult_lane argb (factor_of inverse a))))

-- ---- restore with lent factors

-- the factors to restore as a list: entry i is that of alpha i + 1, for alpha 1 to 254
unfoldable pub restore_factors : List ℕ
restore_factors = tabulate (λ i. restore_factor (suc i)) 254

-- a colour c under alpha a, restored by any list in the place of the factors; above its alpha, c counts as a. By SCOPE's factors that is the cut at 255 (`lent_is`).
unfoldable pub restored_by : List ℕ → ℕ → ℕ → ℕ
restored_by factors c a =
    cond (a == 255) c (cond (a == 0) 0 (scale_colour (min c a) (slice_index factors (a - 1))))
