-- Packing and unpacking undo each other, for a pixel and for slices of any length: a place holds the lane that the table says, and the table is its own
-- inverse. Then the steps of the loops that pack and unpack. Assumes nothing.
use Prim.Native.Nat.{ℕ, ◌+◌, ◌*◌, ◌/◌, ◌%◌, ◌^◌, ◌≤◌, ◌<◌}
use mathlib.Core.Path.{◌≡◌, sym, ap, ◌∙◌}
use mathlib.Core.List.{List, [], ◌∷◌, ◌++◌}
use native.Mathlib.Omega.{arith}
use native.Mathlib.Nat.{add-zero}
use lib.ListN.{length, get_or, take, drop}
use Rattle.arithmetic.specs.Matte.{lane_of, pixel_of}
use Rattle.arithmetic.proofs.Mattes.{lanes_make, pixel_lane, pixel_cong}
use Rattle.arithmetic.specs.Table.{tabulate}
use Rattle.arithmetic.proofs.Tables.{length_tabulate, get_d_tabulate, tabulate_cong, tabulate_is}
use Rattle.pixels_layout.specs.declared.PixelLayout.{PixelLayout}
use Rattle.pixels_layout.specs.declared.PixelLayout.TheVariants.{Rgba8, Argb8, Bgra8}
use Rattle.pixels.specs.declared.Refusal.TheVariants.{OutputLength}
use Rattle.pixels.specs.Refusals.{number, other_length}
use Rattle.pixels.specs.Sizes.{pixel_lanes}
use Rattle.pixels_layout.specs.Layout.{place_of, lane_at, pixel_at, unpacked, packed, unpacked_pixels, packed_byte, packed_pixels, pack_number, unpack_number}
use Rattle.pixels_layout.specs.RoundTrips.{RoundTrips}
use Rattle.pixels.proofs.Truths.{differ, same}
use Rattle.pixels.proofs.Causes.{first_at, first_none}
use Rattle.arithmetic.proofs.Stretches.{stretch, tabulate_add}
use Rattle.pixels_layout.proofs.Tabled.{place_lt, place_twice}

-- what four bytes unpack to, the lanes read where the table says
pub unpack_from : (l : PixelLayout) (s : List ℕ) (b g r a : ℕ) {n : ℕ} → b ≡ place_of l 0 → g ≡ place_of l 1 → r ≡ place_of l 2 → a ≡ place_of l 3 → n ≡ get_or s b 0 + 2 ^ 8 * get_or s g 0 + 2 ^ 16 * get_or s r 0 + 2 ^ 24 * get_or s a 0 → n ≡ unpacked l s
unfolding unpacked pixel_at pixel_of
unpack_from Rgba8 s b g r a pb pg pr pa e = rw (pb, pg, pr, pa) at e
unpack_from Argb8 s b g r a pb pg pr pa e = rw (pb, pg, pr, pa) at e
unpack_from Bgra8 s b g r a pb pg pr pa e = rw (pb, pg, pr, pa) at e

-- what a pixel packs to, each byte the lane that the table has at its place
pub pack_from : (l : PixelLayout) (n : ℕ) {p q r s b c d e : ℕ} → p ≡ place_of l 0 → q ≡ place_of l 1 → r ≡ place_of l 2 → s ≡ place_of l 3 → b ≡ lane_of n p → c ≡ lane_of n q → d ≡ lane_of n r → e ≡ lane_of n s → (b ∷ c ∷ d ∷ e ∷ []) ≡ packed l n
unfolding packed tabulate
pack_from l n p q r s b c d e = cc

-- four bytes of a row, in their order, are a pixel of it
pub unpacked_at : (l : PixelLayout) (s : List ℕ) (i : ℕ) → unpacked l (get_or s (4 * i) 0 ∷ get_or s (4 * i + 1) 0 ∷ get_or s (4 * i + 2) 0 ∷ get_or s (4 * i + 3) 0 ∷ []) ≡ pixel_at l s i
unfolding unpacked pixel_at pixel_of
unpacked_at Rgba8 s i = simp add-zero
unpacked_at Argb8 s i = simp add-zero
unpacked_at Bgra8 s i = simp add-zero

-- ---- the bytes of pixel i among packed pixels
module _ (l : PixelLayout) (p : ℕ → ℕ) (i : ℕ) where
  pub packed_byte_lem : (j : ℕ) → j < pixel_lanes → packed_byte l p (pixel_lanes * i + j) ≡ lane_of (p i) (place_of l j)
  unfolding packed_byte
  packed_byte_lem j h =
      let q : (pixel_lanes * i + j) / pixel_lanes ≡ i = omega arith in
      let r : (pixel_lanes * i + j) % pixel_lanes ≡ j = omega arith in
      rw (q, r)

  pub packed_next : tabulate (packed_byte l p) (pixel_lanes * i) ++ packed l (p i) ≡ tabulate (packed_byte l p) (pixel_lanes * i + pixel_lanes)
  unfolding packed
  packed_next =
      ap (λ (t : List ℕ). tabulate (packed_byte l p) (pixel_lanes * i) ++ t) (sym (tabulate_cong _ _ pixel_lanes packed_byte_lem))
      ∙ sym (tabulate_add (packed_byte l p) (pixel_lanes * i) pixel_lanes)

  -- a turn of the loop that packs: the pixel's bytes stored after those of the pixels before it
  pub packed_turn : (out out₀ : List ℕ) → out ≡ tabulate (packed_byte l p) (pixel_lanes * i) ++ drop (pixel_lanes * i) out₀ → take (pixel_lanes * i) out ++ (packed l (p i) ++ drop (pixel_lanes * i + pixel_lanes) out) ≡ tabulate (packed_byte l p) (pixel_lanes * (i + 1)) ++ drop (pixel_lanes * (i + 1)) out₀
  packed_turn out out₀ e =
      let n : pixel_lanes * (i + 1) ≡ pixel_lanes * i + pixel_lanes = omega arith in
      rw n
      (stretch (tabulate (packed_byte l p) (pixel_lanes * i)) (packed l (p i)) out out₀ (pixel_lanes * i) pixel_lanes (length_tabulate (packed_byte l p) (pixel_lanes * i)) e
      ∙ ap (λ (s : List ℕ). s ++ drop (pixel_lanes * i + pixel_lanes) out₀) packed_next)

pub packed_length : (l : PixelLayout) (n : ℕ) → length (packed l n) ≡ pixel_lanes
unfolding packed
packed_length l n = length_tabulate _ pixel_lanes

-- ---- the output's length
pub pack_refused : (n m : ℕ) → (m ≡ pixel_lanes * n → ⊥) → pack_number n m ≡ number OutputLength
unfolding pack_number
pack_refused n m h = first_at (other_length m (pixel_lanes * n) OutputLength ∷ []) 0 tt (differ m (pixel_lanes * n) h)

pub pack_passes : (n m : ℕ) → m ≡ pixel_lanes * n → pack_number n m ≡ 0
unfolding pack_number
pack_passes n m h = first_none (other_length m (pixel_lanes * n) OutputLength ∷ []) (same m (pixel_lanes * n) h, tt)

pub unpack_refused : (n m : ℕ) → (m ≡ n / pixel_lanes → ⊥) → unpack_number n m ≡ number OutputLength
unfolding unpack_number
unpack_refused n m h = first_at (other_length m (n / pixel_lanes) OutputLength ∷ []) 0 tt (differ m (n / pixel_lanes) h)

pub unpack_passes : (n m : ℕ) → m ≡ n / pixel_lanes → unpack_number n m ≡ 0
unfolding unpack_number
unpack_passes n m h = first_none (other_length m (n / pixel_lanes) OutputLength ∷ []) (same m (n / pixel_lanes) h, tt)

-- ---- round trips. A lane of packed pixels is the pixel's lane.
pub packed_lane : (l : PixelLayout) (argb : List ℕ) (i k : ℕ) → i < length argb → k < pixel_lanes → lane_at l (packed_pixels l argb) i k ≡ lane_of (get_or argb i 0) k
unfolding packed_pixels
packed_lane l argb i k h j =
    let p = place_lt l k j in
    get_d_tabulate (packed_byte l (λ x. get_or argb x 0)) (pixel_lanes * length argb) (pixel_lanes * i + place_of l k) (omega arith)
    ∙ packed_byte_lem l (λ x. get_or argb x 0) i (place_of l k) p
    ∙ ap (lane_of (get_or argb i 0)) (place_twice l k j)

packed_pixel : (l : PixelLayout) (argb : List ℕ) (i : ℕ) → i < length argb → get_or argb i 0 < 2 ^ 32 → pixel_at l (packed_pixels l argb) i ≡ get_or argb i 0
unfolding pixel_at
packed_pixel l argb i h w = pixel_cong _ _ (λ k j. packed_lane l argb i k h j) ∙ lanes_make (get_or argb i 0) w

pub packed_count : (l : PixelLayout) (argb : List ℕ) → length (packed_pixels l argb) ≡ pixel_lanes * length argb
unfolding packed_pixels
packed_count l argb = length_tabulate (packed_byte l (λ x. get_or argb x 0)) (pixel_lanes * length argb)

pub unpacked_count : (l : PixelLayout) (s : List ℕ) → length (unpacked_pixels l s) ≡ length s / pixel_lanes
unfolding unpacked_pixels
unpacked_count l s = length_tabulate (pixel_at l s) (length s / pixel_lanes)

-- unpacking undoes packing
pub unpack_pack_pixels : (l : PixelLayout) (argb : List ℕ) → ((i : ℕ) → get_or argb i 0 < 2 ^ 32) → unpacked_pixels l (packed_pixels l argb) ≡ argb
unfolding unpacked_pixels
unpack_pack_pixels l argb w =
    let n : length (packed_pixels l argb) / pixel_lanes ≡ length argb = omega (arith, packed_count l argb) in
    ap (tabulate (pixel_at l (packed_pixels l argb))) n
    ∙ sym (tabulate_is (pixel_at l (packed_pixels l argb)) argb (λ i h. sym (packed_pixel l argb i h (w i))))

-- a lane of a pixel is the byte at its place
pub pixel_at_lane : (l : PixelLayout) (s : List ℕ) (i k : ℕ) → ((x : ℕ) → get_or s x 0 ≤ 255) → k < pixel_lanes → lane_of (pixel_at l s i) k ≡ lane_at l s i k
unfolding pixel_at
pixel_at_lane l s i k w h = pixel_lane (lane_at l s i) (λ j _. w (pixel_lanes * i + place_of l j)) k h

unpacked_byte : (l : PixelLayout) (s : List ℕ) (x : ℕ) → length s % pixel_lanes ≡ 0 → ((y : ℕ) → get_or s y 0 ≤ 255) → x < length s → packed_byte l (λ i. get_or (unpacked_pixels l s) i 0) x ≡ get_or s x 0
unfolding packed_byte unpacked_pixels
unpacked_byte l s x whole w h =
    let r : x % pixel_lanes < pixel_lanes = omega arith in
    let p = place_lt l (x % pixel_lanes) r in
    let e : pixel_lanes * (x / pixel_lanes) + x % pixel_lanes ≡ x = omega arith in
    ap (λ (t : ℕ). lane_of t (place_of l (x % pixel_lanes))) (get_d_tabulate (pixel_at l s) (length s / pixel_lanes) (x / pixel_lanes) (omega arith))
    ∙ pixel_at_lane l s (x / pixel_lanes) (place_of l (x % pixel_lanes)) w p
    ∙ ap (λ (t : ℕ). get_or s (pixel_lanes * (x / pixel_lanes) + t) 0) (place_twice l (x % pixel_lanes) r)
    ∙ ap (λ (t : ℕ). get_or s t 0) e

-- packing undoes unpacking, of whole pixels
pub pack_unpack_pixels : (l : PixelLayout) (s : List ℕ) → length s % pixel_lanes ≡ 0 → ((x : ℕ) → get_or s x 0 ≤ 255) → packed_pixels l (unpacked_pixels l s) ≡ s
unfolding packed_pixels
pack_unpack_pixels l s whole w =
    let f : ℕ → ℕ = packed_byte l (λ i. get_or (unpacked_pixels l s) i 0) in
    let n : pixel_lanes * length (unpacked_pixels l s) ≡ length s = omega (arith, unpacked_count l s) in
    ap (tabulate f) n ∙ sym (tabulate_is f s (λ x h. sym (unpacked_byte l s x whole w h)))

-- ---- one pixel
at_first : (k : ℕ) → pixel_lanes * 0 + k ≡ k
at_first k = omega arith

pub unpack_pack : (l : PixelLayout) (n : ℕ) → n < 2 ^ 32 → unpacked l (packed l n) ≡ n
unfolding unpacked pixel_at packed
unpack_pack l n w =
    pixel_cong (lane_at l (tabulate (λ j. lane_of n (place_of l j)) pixel_lanes) 0) (lane_of n)
    (λ k h.
    ap (λ (t : ℕ). get_or (tabulate (λ j. lane_of n (place_of l j)) pixel_lanes) t 0) (at_first (place_of l k))
    ∙ get_d_tabulate (λ j. lane_of n (place_of l j)) pixel_lanes (place_of l k) (place_lt l k h)
    ∙ ap (lane_of n) (place_twice l k h))
    ∙ lanes_make n w

pub pack_unpack : (l : PixelLayout) (px : List ℕ) → length px ≡ pixel_lanes → ((x : ℕ) → get_or px x 0 ≤ 255) → packed l (unpacked l px) ≡ px
unfolding unpacked packed
pack_unpack l px long w =
    sym
    (tabulate_is (λ j. lane_of (pixel_at l px 0) (place_of l j)) px (λ x h. sym (at x (omega arith)))
    ∙ ap (tabulate (λ j. lane_of (pixel_at l px 0) (place_of l j))) long)
  where
    at : (x : ℕ) → x < pixel_lanes → lane_of (pixel_at l px 0) (place_of l x) ≡ get_or px x 0
    at x h =
        pixel_at_lane l px 0 (place_of l x) w (place_lt l x h)
        ∙ ap (λ (t : ℕ). get_or px t 0) (at_first (place_of l (place_of l x)) ∙ place_twice l x h)

-- ---- all four, in every layout: what specs/RoundTrips.antt states, an end in itself
pub round_trips : (l : PixelLayout) → RoundTrips l
round_trips l = record { pixel = unpack_pack l; four = pack_unpack l; pixels = unpack_pack_pixels l; bytes = pack_unpack_pixels l }
