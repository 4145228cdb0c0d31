-- "the pixel twice": an opaque pixel made twice as wide, or twice as high, is there twice. Why: both columns, or both rows, have the pixel's lanes, and an opaque
-- pixel passes matte and restore unchanged. An end in itself. Assumes nothing.
use Prim.Native.Nat.{ℕ, zero, suc, ◌+◌, ◌*◌, ◌/◌, ◌%◌, ◌^◌, ◌≤◌, ◌<◌}
use mathlib.Core.Path.{◌≡◌, refl, ap, ap₂, ◌∙◌}
use mathlib.Core.Bool.{true, false}
use mathlib.Core.List.{[], ◌∷◌, ◌++◌}
use native.Mathlib.Omega.{arith}
use lib.ListN.{get_or}
use Rattle.arithmetic.specs.Quotient.{ceil}
use Rattle.arithmetic.specs.Sum.{sum}
use Rattle.arithmetic.specs.Table.{tabulate}
use Rattle.arithmetic.specs.Weight.{span, grow_weight}
use Rattle.arithmetic.specs.Matte.{lane_of, pixel_of, mult_argb}
use Rattle.arithmetic.proofs.Mattes.{lane_byte_lem, lanes_make, pixel_lane, pixel_cong, argb_opaque}
use Rattle.arithmetic.proofs.Tables.{tabulate_cong}
use Rattle.pixels.specs.declared.Dimensions.{Dimensions}
use Rattle.pixels.specs.Sizes.{size_of}
use Rattle.pixels_layout.specs.declared.PixelLayout.{PixelLayout}
use Rattle.pixels_layout.specs.declared.PixelLayout.TheVariants.{Rgba8, Argb8, Bgra8}
use Rattle.pixels_layout.specs.Layout.{place_of, packed_byte}
use Rattle.pixels_layout.specs.Lanes.{restored_pixel, restored_place}
use Rattle.pixels_layout.proofs.Matted.{restored_cong}
use Rattle.rows_schedule.specs.Schedule.{needed, since}
use Rattle.rows.specs.Column.{start, over, last, column_sum, carry, shrink_value, grow_value, value}
use Rattle.rows.specs.Output.{ratio, byte_down, blend, byte_up}
use Rattle.rows.specs.Closed.{newest, share_before, first_half, scaled_byte, scaled}
use Rattle.job_rules.specs.declared.Plan.{Plan}
use Rattle.job_claim.specs.Rows.{source_byte, read_byte, scaled_lane, row_of, rows_of, resize_plan, resized}
use Rattle.job_claim.specs.Trials.{pixel, PixelTwice}

-- ---- a target that every lane of the pixel reaches unchanged
abbrev Copied : Dimensions → Type 0
Copied t = (p : ℕ → ℕ → ℕ) (j y : ℕ) → j < t.width → y < t.height → p 0 0 ≤ 255 → scaled 1 t.width 1 t.height p j y ≡ p 0 0

-- a column that grew from one pixel has its lane
one_weight : (j : ℕ) → grow_weight 1 2 j 0 ≡ 1
unfolding grow_weight
one_weight j = omega arith

one_value : (q : ℕ → ℕ) (j : ℕ) → value q 1 2 j ≡ q 0
unfolding value grow_value sum
one_value q j = rw (one_weight j) (omega arith)

wide : Copied (size_of 2 1)
unfolding scaled scaled_byte byte_down ratio first_half share_before needed since ceil span sum
wide p j zero column row h = rw (one_value (p 0) j) (omega arith)
wide p j (suc y) column row h = absurd (omega arith)

-- a row that grew from one pixel: d is 0 and the factor one
high : Copied (size_of 1 2)
unfolding scaled scaled_byte byte_up blend newest needed since ceil span value shrink_value column_sum carry start over last sum
high p zero zero column row h = omega arith
high p zero (suc zero) column row h = omega arith
high p zero (suc (suc y)) column row h = absurd (omega arith)
high p (suc j) y column row h = absurd (omega arith)

-- ---- the rows of an opaque pixel n, read from the bytes s
module _ (t : Dimensions) (copied : Copied t) (l : PixelLayout) where
  abbrev plan : Plan
  plan = resize_plan (size_of 1 1) l t

  module _ (s : ℕ → ℕ) (n : ℕ) (word : n < 2 ^ 32) (opaque : lane_of n 3 ≡ 255) (is : pixel_of (source_byte plan s 0 0) ≡ n) where
    matted_is : (k : ℕ) → read_byte plan s k 0 0 ≡ lane_of n k
    unfolding read_byte
    matted_is k = rw is (ap (λ (a : ℕ). lane_of a k) (argb_opaque n false opaque))

    lane_is : (x y : ℕ) → x < 4 * t.width → y < t.height → scaled_lane plan s y x ≡ lane_of n (x % 4)
    unfolding scaled_lane
    lane_is x y column row =
        copied (read_byte plan s (x % 4)) (x / 4) y (omega arith) row (rw (matted_is (x % 4)) (lane_byte_lem n (x % 4))) ∙ matted_is (x % 4)

    place_is : (z : ℕ) → restored_place l (λ x. lane_of n (x % 4)) z ≡ lane_of n (place_of l (z % 4))
    unfolding restored_place restored_pixel packed_byte
    place_is z =
        let made : pixel_of (λ k. lane_of n ((4 * (z / 4) + k) % 4)) ≡ n =
        pixel_cong (λ k. lane_of n ((4 * (z / 4) + k) % 4)) (lane_of n) (λ k h. ap (lane_of n) (omega arith)) ∙ lanes_make n word in
        rw made (ap (λ (a : ℕ). lane_of a (place_of l (z % 4))) (argb_opaque n true opaque))

    row_is : (y : ℕ) → y < t.height → row_of plan s y ≡ tabulate (λ x. lane_of n (place_of l (x % 4))) (4 * t.width)
    unfolding row_of
    row_is y row =
        tabulate_cong _ _ (4 * t.width)
        (λ z u. restored_cong l _ (λ x. lane_of n (x % 4)) t.width z u (λ x h. lane_is x y h row) ∙ place_is z)

-- ---- the pixel
abbrev lanes : ℕ → ℕ → ℕ → ℕ → ℕ
lanes r g b k = get_or (b ∷ g ∷ r ∷ 255 ∷ []) k 0

abbrev read : PixelLayout → ℕ → ℕ → ℕ → ℕ → ℕ
read l r g b i = get_or (pixel l 255 r g b) i 0

read_lanes : (t : Dimensions) (l : PixelLayout) (r g b : ℕ) → pixel_of (source_byte (resize_plan (size_of 1 1) l t) (read l r g b) 0 0) ≡ pixel_of (lanes r g b)
unfolding pixel_of pixel
read_lanes t Rgba8 r g b = refl
read_lanes t Argb8 r g b = refl
read_lanes t Bgra8 r g b = refl

once : (l : PixelLayout) (r g b n : ℕ) → lane_of n 0 ≡ b → lane_of n 1 ≡ g → lane_of n 2 ≡ r → lane_of n 3 ≡ 255
    → tabulate (λ x. lane_of n (place_of l (x % 4))) 4 ≡ pixel l 255 r g b
unfolding tabulate pixel
once Rgba8 r g b n e0 e1 e2 e3 = rw (e0, e1, e2, e3) refl
once Argb8 r g b n e0 e1 e2 e3 = rw (e0, e1, e2, e3) refl
once Bgra8 r g b n e0 e1 e2 e3 = rw (e0, e1, e2, e3) refl

bytes : (r g b : ℕ) → r < 256 → g < 256 → b < 256 → (k : ℕ) → k < 4 → lanes r g b k ≤ 255
bytes r g b hr hg hb zero h = omega arith
bytes r g b hr hg hb (suc zero) h = omega arith
bytes r g b hr hg hb (suc (suc zero)) h = omega arith
bytes r g b hr hg hb (suc (suc (suc zero))) h = omega arith
bytes r g b hr hg hb (suc (suc (suc (suc k)))) h = absurd (omega arith)

word : (r g b : ℕ) → r < 256 → g < 256 → b < 256 → pixel_of (lanes r g b) < 2 ^ 32
unfolding pixel_of
word r g b hr hg hb = omega arith

-- ---- twice: a target whose rows, each a pixel repeated, come to two pixels
abbrev Two : Dimensions → Type 0
Two t = (p : Plan) (s f : ℕ → ℕ) → ((y : ℕ) → y < t.height → row_of p s y ≡ tabulate (λ x. f (x % 4)) (4 * t.width))
    → rows_of p s t.height ≡ tabulate (λ x. f (x % 4)) 4 ++ tabulate (λ x. f (x % 4)) 4

two_wide : Two (size_of 2 1)
unfolding rows_of tabulate
two_wide p s f rows = rows 0 (omega arith)

two_high : Two (size_of 1 2)
unfolding rows_of
two_high p s f rows = ap₂ ◌++◌ (rows 0 (omega arith)) (rows 1 (omega arith))

pixel_twice : (t : Dimensions) → Copied t → Two t → PixelTwice t
unfolding resized
pixel_twice t copied two l r g b hr hg hb =
    let n : ℕ = pixel_of (lanes r g b) in
    let at : (k : ℕ) → k < 4 → lane_of (pixel_of (lanes r g b)) k ≡ lanes r g b k = pixel_lane (lanes r g b) (bytes r g b hr hg hb) in
    let alpha : lane_of (pixel_of (lanes r g b)) 3 ≡ 255 = at 3 (omega arith) in
    let pixel-is = once l r g b n (at 0 (omega arith)) (at 1 (omega arith)) (at 2 (omega arith)) alpha in
    two (resize_plan (size_of 1 1) l t) (read l r g b) (λ k. lane_of n (place_of l k))
    (row_is t copied l (read l r g b) n (word r g b hr hg hb) alpha (read_lanes t l r g b))
    ∙ ap₂ ◌++◌ pixel-is pixel-is

pub twice_wide : PixelTwice (size_of 2 1)
twice_wide = pixel_twice (size_of 2 1) wide two_wide

pub twice_high : PixelTwice (size_of 1 2)
twice_high = pixel_twice (size_of 1 2) high two_high
