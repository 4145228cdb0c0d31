-- Whether every pixel is opaque, found by an and of their words: its byte at the alpha's place is 255 exactly if every alpha is. Assumes nothing.
use Prim.Native.Nat.{ℕ, ◌+◌, ◌*◌, ◌/◌, ◌%◌, ◌^◌, ◌≤◌, ◌<◌}
use mathlib.Core.Path.{◌≡◌, refl, sym, ap, ◌∙◌}
use mathlib.Core.Bool.{Bool, not, ◌||◌}
use mathlib.Core.List.{List}
use native.Mathlib.Omega.{arith}
use native.Mathlib.Numerals.{add-one}
use lib.Bits.{bit_and, and_shr, and_mod}
use lib.Dec.{eqb}
use lib.ListN.{length, get_or}
use Rattle.arithmetic.specs.Matte.{lane_of}
use Rattle.arithmetic.proofs.Mattes.{lane_byte_lem}
use Rattle.pixels.specs.Sizes.{pixel_lanes}
use Rattle.pixels_layout.specs.declared.PixelLayout.{PixelLayout}
use Rattle.pixels_layout.specs.Layout.{alpha_lane, place_of, alpha_at}
use Rattle.pixels_layout.proofs.Tabled.{each_lane, place_lt}
use Rattle.pixels_alpha.specs.Alpha.{some_clear, has_alpha}
use Rattle.pixels_alpha.proofs.Flags.{and_full}
use Rattle.pixels_badge.specs.Inner.{word_at}
use Rattle.pixels_badge.proofs.Words.{word_byte}

-- each byte of two words and-ed is the and of theirs
lane_and : (a b p : ℕ) → lane_of (bit_and a b) p ≡ bit_and (lane_of a p) (lane_of b p)
unfolding lane_of
lane_and a b p = ap (λ (t : ℕ). t % 256) (and_shr a b (8 * p)) ∙ and_mod (a / 2 ^ (8 * p)) (b / 2 ^ (8 * p)) 8

-- each byte of the word of ones
lane_ones : (p : ℕ) → p < pixel_lanes → lane_of 4294967295 p ≡ 255
unfolding lane_of
lane_ones = each_lane (λ p. lane_of 4294967295 p ≡ 255) refl refl refl refl

-- the words of the pixels before place x and-ed
pub record Anded (layout : PixelLayout) (s : List ℕ) (all x : ℕ) : Type 0 where
  pub even : x ≡ pixel_lanes * (x / pixel_lanes)
  pub within : x ≤ length s
  pub flag_is : has_alpha layout s (x / pixel_lanes) ≡ not (eqb (lane_of all (place_of layout alpha_lane)) 255)

pub and_first : (layout : PixelLayout) (s : List ℕ) → Anded layout s 4294967295 0
unfolding has_alpha some_clear
and_first layout s =
    let ones = lane_ones (place_of layout alpha_lane) (place_lt layout alpha_lane (omega arith)) in
    record { even = omega arith; within = omega arith; flag_is = sym (ap (λ (t : ℕ). not (eqb t 255)) ones) }

module _ {layout : PixelLayout} {s : List ℕ} {all x : ℕ} (i : Anded layout s all x) (long : length s ≡ pixel_lanes * (length s / pixel_lanes)) where
  pub and_room : x < length s → x + pixel_lanes ≤ length s
  and_room more = omega (arith, i.even)

  pub and_turn : ((y : ℕ) → get_or s y 0 ≤ 255) → x < length s → {w : ℕ} → w ≡ word_at s x → Anded layout s (bit_and all w) (x + pixel_lanes)
  unfolding has_alpha some_clear
  and_turn small more {w} e =
      let place = place_of layout alpha_lane in
      let n = x / pixel_lanes in
      let here : x ≡ pixel_lanes * n = i.even in
      let alpha : lane_of w place ≡ alpha_at layout s n =
      ap (λ (t : ℕ). lane_of t place) e ∙ word_byte s x small place (place_lt layout alpha_lane (omega arith)) ∙ ap (λ (t : ℕ). get_or s (t + place) 0) here in
      let next : (x + pixel_lanes) / pixel_lanes ≡ n + 1 = omega arith in
      record {
        even = omega (arith, i.even);
        within = and_room more;
        flag_is =
            rw (next, add-one, lane_and all w place, and_full (lane_of all place) (lane_of w place) (lane_byte_lem all place) (lane_byte_lem w place), alpha)
            (ap (λ (t : Bool). t || not (eqb (alpha_at layout s n) 255)) i.flag_is);
      }

  -- the alpha of all of them tells
  pub and_done : length s ≤ x → {a : ℕ} → a ≡ lane_of all (place_of layout alpha_lane) → not (eqb a 255) ≡ has_alpha layout s (length s / pixel_lanes)
  and_done over e =
      let end : length s ≡ x = omega (arith, i.within) in
      ap (λ (t : ℕ). not (eqb t 255)) e ∙ sym (ap (λ (t : ℕ). has_alpha layout s (t / pixel_lanes)) end ∙ i.flag_is)
