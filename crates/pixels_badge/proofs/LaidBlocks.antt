-- The blocks of a badge, turned, and of its background, blended, are the bytes of the result; and the loop over blocks. Assumes nothing.
use Prim.Native.Nat.{ℕ, ◌+◌, ◌-◌, ◌*◌, ◌/◌, ◌%◌, ◌≤◌, ◌<◌, min}
use mathlib.Core.Path.{◌≡◌, refl, sym, ap, ◌∙◌}
use mathlib.Core.Bool.{true, false}
use mathlib.Core.Logic.{◌⊎◌, inl, inr}
use mathlib.Core.List.{List, ◌++◌}
use native.Mathlib.Omega.{arith}
use lib.Dec.{eqb}
use lib.ListN.{length, get_or, take, drop, length-append, length-drop}
use lib.Seq.{get_or-drop, get_or-take, length-take-le, drop-drop}
use borrow.Author.Tests.{eqb-true, eqb-false, eq-eqb}
use Rattle.arithmetic.specs.Table.{tabulate}
use Rattle.arithmetic.proofs.Tables.{length_tabulate, get_d_table, tabulate_cong}
use Rattle.arithmetic.proofs.Stores.{Stored, none_stored, same, ahead, filled}
use Rattle.arithmetic.proofs.Stretches.{stretch, tabulate_add}
use Rattle.pixels.specs.Sizes.{pixel_lanes}
use Rattle.pixels.proofs.Truths.{test}
use Rattle.pixels_layout.specs.declared.PixelLayout.{PixelLayout}
use Rattle.pixels_layout.specs.Layout.{alpha_lane, place_of, lane_at, alpha_at}
use Rattle.pixels_layout.proofs.Tabled.{place_lt, place_twice}
use Rattle.pixels_badge.specs.Badge.{blended, laid_lane, laid_byte, laid}
use Rattle.pixels_badge.specs.Inner.{alpha_in, colour_in, filled_by, blended_in, blended_block, block_bytes, TurnAsks, BlockAsks, LayAsks}
use Rattle.pixels_badge.proofs.Sums.{blended_whole, colour_laid}
use Rattle.pixels_badge.proofs.Laying.{alpha_opaque, lane_opaque}

-- ---- a byte of the colours
colour_alpha : (layout from : PixelLayout) (badge : List ℕ) (y : ℕ) → eqb (place_of layout (y % pixel_lanes)) alpha_lane ≡ true → colour_in layout from badge y ≡ 255
unfolding colour_in
colour_alpha layout from badge y t = simp t

colour_other : (layout from : PixelLayout) (badge : List ℕ) (y : ℕ) → eqb (place_of layout (y % pixel_lanes)) alpha_lane ≡ false
    → colour_in layout from badge y ≡ lane_at from badge (y / pixel_lanes) (place_of layout (y % pixel_lanes))
unfolding colour_in
colour_other layout from badge y f = simp f

-- ---- the bytes of a block of m from byte `at` on: badge' and pixels' are its parts of badge and background
module _ (layout : PixelLayout) (pixels : List ℕ) (from : PixelLayout) (badge : List ℕ) (q : LayAsks layout pixels badge)
    (whole : (y : ℕ) → get_or pixels y 0 ≤ 255) (bytes : (y : ℕ) → get_or badge y 0 ≤ 255)
    (at m : ℕ) (even : at ≡ pixel_lanes * (at / pixel_lanes)) (four : m ≡ pixel_lanes * (m / pixel_lanes)) (inside : at + m ≤ length pixels)
    (badge' pixels' alphas colours : List ℕ)
    (eb : (y : ℕ) → y < m → get_or badge' y 0 ≡ get_or badge (at + y) 0) (ep : (y : ℕ) → y < m → get_or pixels' y 0 ≡ get_or pixels (at + y) 0)
    (ea : (y : ℕ) → y < m → get_or alphas y 0 ≡ alpha_in from badge' y) (ec : (y : ℕ) → y < m → get_or colours y 0 ≡ colour_in layout from badge' y) where
  module _ (y : ℕ) (l : y < m) where
    abbrev i : ℕ
    i = at / pixel_lanes + y / pixel_lanes

    abbrev k : ℕ
    k = place_of layout (y % pixel_lanes)

    k_small : k < pixel_lanes
    k_small = place_lt layout (y % pixel_lanes) (omega arith)

    -- a lane of the block's pixel is the badge's
    lane_part : (j : ℕ) → j < pixel_lanes → lane_at from badge' (y / pixel_lanes) j ≡ lane_at from badge i j
    lane_part j h =
        let small = place_lt from j h in
        let e : at + (pixel_lanes * (y / pixel_lanes) + place_of from j) ≡ pixel_lanes * i + place_of from j = omega arith in
        eb (pixel_lanes * (y / pixel_lanes) + place_of from j) (omega arith) ∙ ap (λ (t : ℕ). get_or badge t 0) e

    alpha_there : get_or alphas (2 * (y / 2)) 0 ≡ alpha_at from badge i
    unfolding alpha_in
    alpha_there =
        let r : 2 * (y / 2) % 2 ≡ 0 = omega arith in
        let d : 2 * (y / 2) / pixel_lanes ≡ y / pixel_lanes = omega arith in
        ea (2 * (y / 2)) (omega arith) ∙ simp (eq-eqb (2 * (y / 2) % 2) 0 r) (ap (alpha_at from badge') d ∙ lane_part alpha_lane (omega arith))

    pixel_there : get_or pixels' y 0 ≡ lane_at layout pixels i k
    pixel_there =
        let e : at + y ≡ pixel_lanes * i + place_of layout k = omega (arith, place_twice layout (y % pixel_lanes) (omega arith)) in
        ep y l ∙ ap (λ (t : ℕ). get_or pixels t 0) e

    byte_of : laid_byte layout pixels from badge (at + y) ≡ laid_lane layout pixels from badge i k
    unfolding laid_byte
    byte_of =
        let d : (at + y) / pixel_lanes ≡ i = omega arith in
        let r : (at + y) % pixel_lanes ≡ y % pixel_lanes = omega arith in
        rw (d, r) refl

    there : i < length pixels / pixel_lanes
    there = omega (arith, q.long)

    blends : blended (alpha_at from badge i) (colour_in layout from badge' y) (lane_at layout pixels i k) ≡ laid_lane layout pixels from badge i k
    blends = by (test (eqb k alpha_lane))
      where
        by : (eqb k alpha_lane ≡ true) ⊎ (eqb k alpha_lane ≡ false) → blended (alpha_at from badge i) (colour_in layout from badge' y) (lane_at layout pixels i k) ≡ laid_lane layout pixels from badge i k
        by (inl t) =
            let e = eqb-true k alpha_lane t in
            let d : lane_at layout pixels i k ≡ 255 = ap (lane_at layout pixels i) e ∙ alpha_opaque layout pixels (length pixels / pixel_lanes) i q.opaque there in
            rw (colour_alpha layout from badge' y t, d) (blended_whole (alpha_at from badge i) (bytes _))
            ∙ sym (ap (laid_lane layout pixels from badge i) e ∙ lane_opaque layout pixels from badge (length pixels / pixel_lanes) q.long q.opaque i there)
        by (inr f) =
            let other = eqb-false k alpha_lane f in
            ap (λ (c : ℕ). blended (alpha_at from badge i) c (lane_at layout pixels i k)) (colour_other layout from badge' y f ∙ lane_part k k_small)
            ∙ sym (colour_laid k (alpha_at from badge i) (lane_at from badge i k) (lane_at layout pixels i k) (bytes _) (whole _) other)

    pub byte_made : blended_in pixels' alphas colours y ≡ laid_byte layout pixels from badge (at + y)
    unfolding blended_in
    byte_made = rw (alpha_there, pixel_there, ec y l) (blends ∙ sym byte_of)

-- ---- the loop over blocks: `at` bytes are laid
pub record Covering (layout : PixelLayout) (pixels : List ℕ) (from : PixelLayout) (badge s alphas colours : List ℕ) (at : ℕ) : Type 0 where
  pub even : at ≡ pixel_lanes * (at / pixel_lanes)
  pub bytes : Stored (laid_byte layout pixels from badge) pixels s (length pixels) at
  pub alphas_long : length alphas ≡ block_bytes
  pub colours_long : length colours ≡ block_bytes

pub covering_first : (layout : PixelLayout) (pixels : List ℕ) (from : PixelLayout) (badge : List ℕ) {alphas colours : List ℕ} → length alphas ≡ block_bytes → length colours ≡ block_bytes
    → Covering layout pixels from badge pixels alphas colours 0
covering_first layout pixels from badge a c =
    record { even = omega arith; bytes = none_stored (laid_byte layout pixels from badge) (omega arith); alphas_long = a; colours_long = c }

-- a part of a list
part_byte : (s : List ℕ) (at m y : ℕ) → y < m → get_or (take m (drop at s)) y 0 ≡ get_or s (at + y) 0
part_byte s at m y h = get_or-take m (drop at s) y 0 h ∙ get_or-drop at s y 0

part_long : (s : List ℕ) (at m : ℕ) → at + m ≤ length s → length (take m (drop at s)) ≡ m
part_long s at m h = length-take-le m (drop at s) (rw (length-drop at s) (omega arith))

filled_long : (f : ℕ → ℕ) (n : ℕ) (s : List ℕ) → n ≤ length s → length (filled_by f n s) ≡ length s
filled_long f n s h = simp (length-append, length_tabulate, length-drop) (omega arith)

module _ {layout : PixelLayout} {pixels : List ℕ} {from : PixelLayout} {badge s alphas colours : List ℕ} {at : ℕ} (c : Covering layout pixels from badge s alphas colours at)
    (q : LayAsks layout pixels badge) where
  module _ (more : at < length pixels) {e : ℕ} (is : e ≡ min (length pixels) (at + block_bytes)) where
    pub end_after : at ≤ e
    end_after = omega arith

    pub end_more : at < e
    end_more = omega arith

    pub end_inside : e ≤ length s
    end_inside = omega (arith, same c.bytes)

    pub end_badge : e ≤ length badge
    end_badge = omega (arith, q.alike)

    abbrev m : ℕ
    m = e - at

    small : m ≤ block_bytes
    small = omega arith

    four : m ≡ pixel_lanes * (m / pixel_lanes)
    four = omega (arith, c.even, q.long)

    badge_part : length (take m (drop at badge)) ≡ m
    badge_part = part_long badge at m (omega (arith, end_badge))

    pixels_part : length (take m (drop at s)) ≡ m
    pixels_part = part_long s at m (omega (arith, end_inside))

    pub turn_asks : TurnAsks (take m (drop at badge)) alphas colours
    turn_asks =
        record {
          whole = rw badge_part four;
          alphas_room = rw (badge_part, c.alphas_long) small;
          colours_room = rw (badge_part, c.colours_long) small;
        }

    module _ {alphas' colours' : List ℕ}
        (ea : alphas' ≡ filled_by (alpha_in from (take m (drop at badge))) (length (take m (drop at badge))) alphas)
        (ec : colours' ≡ filled_by (colour_in layout from (take m (drop at badge))) (length (take m (drop at badge))) colours) where
      pub alphas_kept : length alphas' ≡ block_bytes
      alphas_kept = ap length ea ∙ filled_long _ _ alphas turn_asks.alphas_room ∙ c.alphas_long

      pub colours_kept : length colours' ≡ block_bytes
      colours_kept = ap length ec ∙ filled_long _ _ colours turn_asks.colours_room ∙ c.colours_long

      pub block_asks : BlockAsks (take m (drop at s)) alphas' colours'
      block_asks =
          record {
            whole = rw pixels_part (omega (arith, four));
            alphas_room = rw (pixels_part, alphas_kept) small;
            colours_room = rw (pixels_part, colours_kept) small;
          }

      alpha_filled : (y : ℕ) → y < m → get_or alphas' y 0 ≡ alpha_in from (take m (drop at badge)) y
      alpha_filled y h = ap (λ (t : List ℕ). get_or t y 0) ea ∙ get_d_table (alpha_in from (take m (drop at badge))) (length (take m (drop at badge))) _ y (rw badge_part h)

      colour_filled : (y : ℕ) → y < m → get_or colours' y 0 ≡ colour_in layout from (take m (drop at badge)) y
      colour_filled y h = ap (λ (t : List ℕ). get_or t y 0) ec ∙ get_d_table (colour_in layout from (take m (drop at badge))) (length (take m (drop at badge))) _ y (rw badge_part h)

      module _ (whole : (y : ℕ) → get_or pixels y 0 ≤ 255) (bytes : (y : ℕ) → get_or badge y 0 ≤ 255) where
        block_made : blended_block (take m (drop at s)) alphas' colours' ≡ tabulate (λ j. laid_byte layout pixels from badge (at + j)) m
        unfolding blended_block
        block_made =
            ap (tabulate (blended_in (take m (drop at s)) alphas' colours')) pixels_part
            ∙ tabulate_cong (blended_in (take m (drop at s)) alphas' colours') (λ j. laid_byte layout pixels from badge (at + j)) m
            (λ y h.
            byte_made layout pixels from badge q whole bytes at m c.even four (omega arith) (take m (drop at badge)) (take m (drop at s)) alphas' colours'
            (λ z l. part_byte badge at m z l) (λ z l. part_byte s at m z l ∙ ahead c.bytes (at + z) (omega arith)) alpha_filled colour_filled y h)

        pub covering_turn : {part s' : List ℕ} → part ≡ blended_block (take m (drop at s)) alphas' colours' → s' ≡ take at s ++ (part ++ drop m (drop at s))
            → Covering layout pixels from badge s' alphas' colours' e
        covering_turn {part} ep es =
            let f = laid_byte layout pixels from badge in
            let end : at + m ≡ e = omega arith in
            let rest : drop m (drop at s) ≡ drop (at + m) s = drop-drop m at s in
            let joined = stretch (tabulate f at) (tabulate (λ j. f (at + j)) m) s pixels at m (length_tabulate f at) c.bytes.so_far in
            record {
              even = omega (arith, c.even, four);
              bytes =
                  record {
                    at = omega arith;
                    room = c.bytes.room;
                    so_far =
                        es
                        ∙ rw (ep ∙ block_made, rest) joined
                        ∙ ap (λ (t : List ℕ). t ++ drop (at + m) pixels) (sym (tabulate_add f at m))
                        ∙ ap (λ (k : ℕ). tabulate f k ++ drop k pixels) end;
                  };
              alphas_long = alphas_kept;
              colours_long = colours_kept;
            }

  pub covering_done : length pixels ≤ at → s ≡ laid layout pixels from badge
  unfolding laid
  covering_done h = filled c.bytes refl h
