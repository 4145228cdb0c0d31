-- A row restored and put in a layout's order, pixel by pixel: every pixel keeps its alpha and an opaque one its colours, so that the flag is that of the alphas
-- before; the byte order is the table's. Assumes nothing.
use Prim.Native.Nat.{ℕ, zero, suc, ◌+◌, ◌*◌, ◌/◌, ◌%◌, ◌^◌, ◌≤◌, ◌<◌}
use mathlib.Core.Path.{◌≡◌, refl, sym, ap, ap₂, ◌∙◌}
use mathlib.Core.Bool.{true, false}
use mathlib.Core.List.{List, [], ◌∷◌}
use native.Mathlib.Omega.{arith}
use native.Mathlib.Nat.{add-zero, le_of_suc-le-suc}
use Rattle.std.specs.Int.{w32, from_le_bytes, to_le_bytes, swap_bytes}
use lib.ListN.{length, get_or, set}
use Rattle.arithmetic.specs.Matte.{lane_of, pixel_of, restore_factor, factor_of, scale_colour, cut_colour, mult_argb}
use Rattle.arithmetic.specs.Table.{tabulate}
use Rattle.arithmetic.proofs.Tables.{get_d_tabulate, tabulate_cong}
use Rattle.arithmetic.proofs.Mattes.{lane_byte_lem, lane_high, pixel_lane, restored_alpha, restored_colour, restored_opaque}
use Rattle.pixels_layout.specs.declared.PixelLayout.{PixelLayout}
use Rattle.pixels_layout.specs.declared.PixelLayout.TheVariants.{Rgba8, Argb8, Bgra8}
use Rattle.pixels.specs.Sizes.{pixel_lanes, row_bytes}
use Rattle.pixels_layout.specs.Layout.{alpha_lane, place_of, packed_byte}
use Rattle.pixels_layout.specs.Lanes.{restored_pixel, restored_place}
use Rattle.pixels_alpha.specs.Alpha.{some_clear, has_alpha}
use Rattle.pixels_layout.proofs.Tabled.{each_lane, place_lt, place_twice}
use Rattle.pixels_layout.proofs.Packing.{packed_byte_lem}
use Rattle.pixels_alpha.proofs.Flags.{clear_no, clear_cong}
use Rattle.rows_restoring.specs.Inner.Restoring.{pixels_in, pixels_made, alpha_in, restored_at, put_colours, restored_bytes, word_at, put_lanes, ordered_byte, ordered_bytes, ordered_word}
use Rattle.arithmetic.proofs.Stores.{Stored, none_stored, store, store_four, keep, place, ahead, all_stored}

-- ---- the scaler's own order
own_place : (k : ℕ) → k < pixel_lanes → place_of Bgra8 k ≡ k
own_place = each_lane (λ k. place_of Bgra8 k ≡ k) refl refl refl refl

-- ---- one colour as the code cuts it
pub cut_none : (c k : ℕ) → (c * k + 8388608) / 16777216 < 255 → (c * k + 8388608) / 16777216 ≡ cut_colour c k
unfolding cut_colour scale_colour
cut_none c k h = omega arith

pub cut_most : (c k : ℕ) → 255 ≤ (c * k + 8388608) / 16777216 → 255 ≡ cut_colour c k
unfolding cut_colour scale_colour
cut_most c k h = omega arith

-- ---- one pixel: its colours stored, by the factor of its alpha
pub colours_put : (s : List ℕ) (x : ℕ) {k b g r : ℕ} → k ≡ restore_factor (get_or s (x + alpha_lane) 0)
    → b ≡ cut_colour (get_or s x 0) k → g ≡ cut_colour (get_or s (x + 1) 0) k → r ≡ cut_colour (get_or s (x + 2) 0) k
    → set (set (set s x b) (x + 1) g) (x + 2) r ≡ put_colours s x (restored_at s x)
unfolding put_colours restored_at factor_of
colours_put s x e p q t = rw (p, q, t, e, add-zero x)

-- ---- pixel j of a row of bytes, restored
module _ (s : List ℕ) (small : (y : ℕ) → get_or s y 0 < 256) (j : ℕ) where
  abbrev lanes : ℕ → ℕ
  lanes k = get_or s (pixel_lanes * j + k) 0

  bytes : (k : ℕ) → k < pixel_lanes → lanes k ≤ 255
  bytes k l = le_of_suc-le-suc (small (pixel_lanes * j + k))

  place_is : (k : ℕ) → k < pixel_lanes → restored_place Bgra8 (λ x. get_or s x 0) (pixel_lanes * j + k) ≡ lane_of (mult_argb (pixel_of lanes) true) k
  unfolding restored_place restored_pixel
  place_is k l =
      packed_byte_lem Bgra8 (restored_pixel (λ x. get_or s x 0)) j k l ∙ ap (lane_of (restored_pixel (λ x. get_or s x 0) j)) (own_place k l)

  colour_is : (k : ℕ) → k < alpha_lane → restored_at s (pixel_lanes * j) k ≡ restored_place Bgra8 (λ x. get_or s x 0) (pixel_lanes * j + k)
  unfolding restored_at
  colour_is k l = sym (place_is k (omega arith) ∙ restored_colour lanes bytes k l)

  -- the alpha survives
  alpha_is : lane_of (mult_argb (pixel_of lanes) true) alpha_lane ≡ alpha_in s j
  alpha_is = restored_alpha lanes bytes

  alpha_kept : alpha_in s j ≡ restored_place Bgra8 (λ x. get_or s x 0) (pixel_lanes * j + alpha_lane)
  alpha_kept = sym (place_is alpha_lane (omega arith) ∙ alpha_is)

  -- and an opaque pixel is as it was
  opaque_kept : alpha_in s j ≡ 255 → (k : ℕ) → k < pixel_lanes → lanes k ≡ restored_place Bgra8 (λ x. get_or s x 0) (pixel_lanes * j + k)
  opaque_kept e k l = sym (place_is k l ∙ restored_opaque lanes bytes e k l)

-- ---- a row whose pixels are made already
all_kept : (f : ℕ → ℕ) (s : List ℕ) (w k : ℕ) → k ≤ w → w ≤ length s → ((x : ℕ) → x < w → get_or s x 0 ≡ f x) → Stored f s s w k
all_kept f s w zero h room is = none_stored f room
all_kept f s w (suc k) h room is = place (keep (all_kept f s w k (omega arith) room is) (omega arith) (is k (omega arith))) (suc k) (omega arith)

made_already : (f : ℕ → ℕ) (s : List ℕ) → ((x : ℕ) → x < row_bytes pixel_lanes (pixels_in s) → get_or s x 0 ≡ f x) → s ≡ pixels_made f s
made_already f s is =
    let w = row_bytes pixel_lanes (pixels_in s) in
    all_stored (all_kept f s w w (omega arith) (omega arith) is) (omega arith)

-- ---- the loop that restores: j pixels of m are restored
pub record Restoring (s₀ s : List ℕ) (m j : ℕ) : Type 0 where
  pub bytes : Stored (restored_place Bgra8 (λ x. get_or s₀ x 0)) s₀ s (row_bytes pixel_lanes m) (pixel_lanes * j)

pub restore_first : (s : List ℕ) → Restoring s s (pixels_in s) 0
restore_first s = record { bytes = none_stored (restored_place Bgra8 (λ x. get_or s x 0)) (omega arith) }

module _ {s₀ s : List ℕ} {m j : ℕ} (small : (y : ℕ) → get_or s₀ y 0 < 256) (i : Restoring s₀ s m j) (more : j < m) where
  ahead_is : (k : ℕ) → get_or s (pixel_lanes * j + k) 0 ≡ get_or s₀ (pixel_lanes * j + k) 0
  ahead_is k = ahead i.bytes (pixel_lanes * j + k) (omega arith)

  colours : (k : ℕ) → k < alpha_lane → restored_at s (pixel_lanes * j) k ≡ restored_place Bgra8 (λ x. get_or s₀ x 0) (pixel_lanes * j + k)
  unfolding restored_at
  colours k l = ap₂ (λ (c a : ℕ). cut_colour c (factor_of true a)) (ahead_is k) (ahead_is alpha_lane) ∙ colour_is s₀ small j k l

  -- a pixel: three colours are stored, the alpha is kept
  pub restore_turn : {s' : List ℕ} → s' ≡ put_colours s (pixel_lanes * j) (restored_at s (pixel_lanes * j)) → Restoring s₀ s' m (j + 1)
  unfolding put_colours
  restore_turn p =
      let first = colours 0 (omega arith) ∙ ap (restored_place Bgra8 (λ x. get_or s₀ x 0)) (add-zero (pixel_lanes * j)) in
      let two = place (store (store i.bytes (omega arith) first) (omega arith) (colours 1 (omega arith))) (pixel_lanes * j + 2) (omega arith) in
      let three = place (store two (omega arith) (colours 2 (omega arith))) (pixel_lanes * j + alpha_lane) (omega arith) in
      record { bytes = rw p (place (keep three (omega arith) (alpha_kept s₀ small j)) (pixel_lanes * (j + 1)) (omega arith)) }

  -- an opaque one is restored already
  pub opaque_turn : alpha_in s j ≡ 255 → Restoring s₀ s m (j + 1)
  opaque_turn e =
      let opaque : alpha_in s₀ j ≡ 255 = sym (ahead_is alpha_lane) ∙ e in
      let kept = opaque_kept s₀ small j opaque in
      let first = ap (λ (t : ℕ). get_or s₀ t 0) (sym (add-zero (pixel_lanes * j))) ∙ kept 0 (omega arith) ∙ ap (restored_place Bgra8 (λ x. get_or s₀ x 0)) (add-zero (pixel_lanes * j)) in
      let two = place (keep (keep i.bytes (omega arith) first) (omega arith) (kept 1 (omega arith))) (pixel_lanes * j + 2) (omega arith) in
      let three = place (keep two (omega arith) (kept 2 (omega arith))) (pixel_lanes * j + alpha_lane) (omega arith) in
      record { bytes = place (keep three (omega arith) (kept alpha_lane (omega arith))) (pixel_lanes * (j + 1)) (omega arith) }

-- ---- a row of opaque pixels is restored already
pub opaque_row : (s : List ℕ) → ((y : ℕ) → get_or s y 0 < 256) → some_clear (alpha_in s) (pixels_in s) ≡ false → s ≡ restored_bytes s
opaque_row s small none =
    made_already (restored_place Bgra8 (λ x. get_or s x 0)) s
    (λ x h.
    let whole : x ≡ pixel_lanes * (x / pixel_lanes) + x % pixel_lanes = omega arith in
    let opaque = clear_no (alpha_in s) (pixels_in s) none (x / pixel_lanes) (omega arith) in
    ap (λ (t : ℕ). get_or s t 0) whole
    ∙ opaque_kept s small (x / pixel_lanes) opaque (x % pixel_lanes) (omega arith)
    ∙ ap (restored_place Bgra8 (λ t. get_or s t 0)) (sym whole))

-- ---- the byte order
pub ordered_byte_lem : (l : PixelLayout) (s : List ℕ) (j k : ℕ) → k < pixel_lanes → ordered_byte l s (pixel_lanes * j + k) ≡ get_or s (pixel_lanes * j + place_of l k) 0
unfolding ordered_byte
ordered_byte_lem l s j k h =
    let q : (pixel_lanes * j + k) / pixel_lanes ≡ j = omega arith in
    let r : (pixel_lanes * j + k) % pixel_lanes ≡ k = omega arith in
    rw (q, r)

-- j pixels of m stand in the order of a layout
pub record Ordered (l : PixelLayout) (s₀ s : List ℕ) (m j : ℕ) : Type 0 where
  pub bytes : Stored (ordered_byte l s₀) s₀ s (row_bytes pixel_lanes m) (pixel_lanes * j)

pub order_first : (l : PixelLayout) (s : List ℕ) → Ordered l s s (pixels_in s) 0
order_first l s = record { bytes = none_stored (ordered_byte l s) (omega arith) }

-- a pixel read as a word, its lanes put in order and stored
module _ (l : PixelLayout) {s₀ s : List ℕ} {m j : ℕ} (small : (y : ℕ) → get_or s₀ y 0 < 256) (i : Ordered l s₀ s m j) (more : j < m) where
  abbrev from : ℕ → ℕ
  from k = get_or s (pixel_lanes * j + k) 0

  from_is : (k : ℕ) → from k ≡ get_or s₀ (pixel_lanes * j + k) 0
  from_is k = ahead i.bytes (pixel_lanes * j + k) (omega arith)

  from_byte : (k : ℕ) → k < pixel_lanes → from k ≤ 255
  from_byte k h = rw (from_is k) (le_of_suc-le-suc (small (pixel_lanes * j + k)))

  lane_put : {w v : ℕ} → w ≡ word_at s (pixel_lanes * j) → v ≡ ordered_word l w → (k : ℕ) → k < pixel_lanes → lane_of v k ≡ ordered_byte l s₀ (pixel_lanes * j + k)
  unfolding word_at ordered_word
  lane_put {w} p q k h =
      ap (λ (t : ℕ). lane_of t k) q
      ∙ pixel_lane (λ n. lane_of w (place_of l n)) (λ n _. lane_byte_lem w (place_of l n)) k h
      ∙ ap (λ (t : ℕ). lane_of t (place_of l k)) p
      ∙ pixel_lane from from_byte (place_of l k) (place_lt l k h)
      ∙ from_is (place_of l k)
      ∙ sym (ordered_byte_lem l s₀ j k h)

  pub order_turn : {w v : ℕ} {s' : List ℕ} → w ≡ word_at s (pixel_lanes * j) → v ≡ ordered_word l w → s' ≡ put_lanes s (pixel_lanes * j) (lane_of v) → Ordered l s₀ s' m (j + 1)
  unfolding put_lanes
  order_turn p q e =
      let lane = lane_put p q in
      let first = lane 0 (omega arith) ∙ ap (ordered_byte l s₀) (add-zero (pixel_lanes * j)) in
      let four = store_four i.bytes (omega arith) first (lane 1 (omega arith)) (lane 2 (omega arith)) (lane 3 (omega arith)) in
      record { bytes = rw e (place four (pixel_lanes * (j + 1)) (omega arith)) }

-- the words that the code makes
pub word_is : (s : List ℕ) (x : ℕ) {w : ℕ} → w ≡ from_le_bytes w32 (get_or s x 0 ∷ get_or s (x + 1) 0 ∷ get_or s (x + 2) 0 ∷ get_or s (x + 3) 0 ∷ []) → w ≡ word_at s x
unfolding word_at pixel_of
word_is s x e = rw (add-zero x) (omega (arith, e))

-- each lane as the code takes it from its pixel
blue_lane : (argb : ℕ) → argb % 256 ≡ lane_of argb 0
unfolding lane_of
blue_lane argb = omega arith

green_lane : (argb : ℕ) → argb / 256 % 256 ≡ lane_of argb 1
unfolding lane_of
green_lane argb = refl

red_lane : (argb : ℕ) → argb / 65536 % 256 ≡ lane_of argb 2
unfolding lane_of
red_lane argb = refl

pub lanes_put : (s : List ℕ) (x argb : ℕ) {bytes : List ℕ} → bytes ≡ to_le_bytes w32 argb
    → set (set (set (set s x (get_or bytes 0 0)) (x + 1) (get_or bytes 1 0)) (x + 2) (get_or bytes 2 0)) (x + 3) (get_or bytes 3 0) ≡ put_lanes s x (lane_of argb)
unfolding put_lanes lane_of
lanes_put s x argb e = rw (e, blue_lane argb)

pub swapped_word : (argb : ℕ) → argb < 2 ^ 32
    → argb / 65536 % 256 + 256 * (argb / 256 % 256) + 65536 * (argb % 256) + 16777216 * (argb / 16777216) ≡ ordered_word Rgba8 argb
unfolding ordered_word pixel_of
swapped_word argb h = rw (blue_lane argb, green_lane argb, red_lane argb, ← lane_high argb h)

pub reversed_word : (argb : ℕ) {v : ℕ} → v ≡ swap_bytes w32 argb → v ≡ ordered_word Argb8 argb
unfolding ordered_word pixel_of lane_of
reversed_word argb e = omega (arith, e)

-- the scaler's own order
pub ordered_same : (s : List ℕ) → s ≡ ordered_bytes Bgra8 s
unfolding ordered_byte
ordered_same s =
    made_already (ordered_byte Bgra8 s) s
    (λ x h.
    let whole : pixel_lanes * (x / pixel_lanes) + x % pixel_lanes ≡ x = omega arith in
    let own : place_of Bgra8 (x % pixel_lanes) ≡ x % pixel_lanes = own_place (x % pixel_lanes) (omega arith) in
    ap (λ (t : ℕ). get_or s t 0) (sym whole) ∙ ap (λ (t : ℕ). get_or s (pixel_lanes * (x / pixel_lanes) + t) 0) (sym own))

-- ---- restored in the scaler's order, then put in a layout's, is restored and packed
pub restored_ordered : (l : PixelLayout) (v : ℕ → ℕ) (m : ℕ) → tabulate (ordered_byte l (tabulate (restored_place Bgra8 v) (row_bytes pixel_lanes m))) (row_bytes pixel_lanes m) ≡ tabulate (restored_place l v) (row_bytes pixel_lanes m)
unfolding ordered_byte restored_place packed_byte
restored_ordered l v m =
    tabulate_cong _ _ (row_bytes pixel_lanes m)
    (λ x h.
    let small : x % pixel_lanes < pixel_lanes = omega arith in
    let p : place_of l (x % pixel_lanes) < pixel_lanes = place_lt l (x % pixel_lanes) small in
    get_d_tabulate (restored_place Bgra8 v) (row_bytes pixel_lanes m) (pixel_lanes * (x / pixel_lanes) + place_of l (x % pixel_lanes)) (omega arith)
    ∙ packed_byte_lem Bgra8 (restored_pixel v) (x / pixel_lanes) (place_of l (x % pixel_lanes)) p
    ∙ ap (lane_of (restored_pixel v (x / pixel_lanes))) (own_place (place_of l (x % pixel_lanes)) p))

-- the flag of the restored row is that of the alphas before: restoring changes none
pub restored_flag : (l : PixelLayout) (s : List ℕ) (m : ℕ) → ((y : ℕ) → get_or s y 0 < 256) → some_clear (alpha_in s) m ≡ has_alpha l (tabulate (restored_place l (λ x. get_or s x 0)) (row_bytes pixel_lanes m)) m
unfolding has_alpha restored_place restored_pixel
restored_flag l s m small =
    clear_cong _ _ m
    (λ i h.
    let p : place_of l alpha_lane < pixel_lanes = place_lt l alpha_lane (omega arith) in
    sym
    (get_d_tabulate (restored_place l (λ x. get_or s x 0)) (row_bytes pixel_lanes m) (pixel_lanes * i + place_of l alpha_lane) (omega arith)
    ∙ packed_byte_lem l (restored_pixel (λ x. get_or s x 0)) i (place_of l alpha_lane) p
    ∙ ap (lane_of (restored_pixel (λ x. get_or s x 0) i)) (place_twice l alpha_lane (omega arith))
    ∙ alpha_is s small i))
