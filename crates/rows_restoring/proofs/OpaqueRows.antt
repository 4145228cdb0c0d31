-- Whether every pixel of a row is opaque, found by an and of their words: its high byte is 255 exactly if every alpha is. Assumes nothing.
use Prim.Native.Nat.{ℕ, ◌+◌, ◌*◌, ◌/◌, ◌^◌, ◌≤◌, ◌<◌}
use mathlib.Core.Path.{◌≡◌, refl, ap, ◌∙◌}
use mathlib.Core.Bool.{Bool, not, ◌||◌}
use mathlib.Core.List.{List}
use native.Mathlib.Omega.{arith}
use native.Mathlib.Nat.{le_of_suc-le-suc}
use native.Mathlib.Numerals.{add-one}
use lib.Bits.{bit_and, and_shr, and_le_l}
use lib.Dec.{eqb}
use lib.ListN.{get_or}
use Rattle.arithmetic.specs.Matte.{pixel_of}
use Rattle.pixels.specs.Sizes.{pixel_lanes}
use Rattle.pixels_layout.specs.Layout.{alpha_lane}
use Rattle.pixels_alpha.specs.Alpha.{some_clear}
use Rattle.pixels_alpha.proofs.Flags.{and_full}
use Rattle.rows_restoring.specs.Inner.Restoring.{alpha_in, word_at}

-- the words of j pixels and-ed
pub record Anded (s : List ℕ) (all j : ℕ) : Type 0 where
  pub word : all < 2 ^ 32
  pub flag_is : some_clear (alpha_in s) j ≡ not (eqb (all / 2 ^ 24) 255)

pub and_first : (s : List ℕ) → Anded s 4294967295 0
unfolding some_clear
and_first s = record { word = omega arith; flag_is = refl }

-- the high byte of a pixel's word is its alpha
word_alpha : (s : List ℕ) (j : ℕ) {w : ℕ} → ((y : ℕ) → get_or s y 0 < 256) → w ≡ word_at s (pixel_lanes * j) → w / 2 ^ 24 ≡ alpha_in s j
unfolding word_at pixel_of
word_alpha s j small e =
    omega (arith, small (pixel_lanes * j + 0), small (pixel_lanes * j + 1), small (pixel_lanes * j + 2))

pub and_turn : {s : List ℕ} {all j w : ℕ} → ((y : ℕ) → get_or s y 0 < 256) → Anded s all j → w ≡ word_at s (pixel_lanes * j) → Anded s (bit_and all w) (j + 1)
unfolding some_clear
and_turn {s} {all} {j} {w} small i e =
    let high : bit_and all w / 2 ^ 24 ≡ bit_and (all / 2 ^ 24) (alpha_in s j) = and_shr all w 24 ∙ ap (bit_and (all / 2 ^ 24)) (word_alpha s j small e) in
    let word = i.word in
    let byte : all / 2 ^ 24 ≤ 255 = omega arith in
    let alpha : alpha_in s j ≤ 255 = le_of_suc-le-suc (small (pixel_lanes * j + alpha_lane)) in
    record {
      word = omega (arith, and_le_l all w);
      flag_is = rw (add-one, high, and_full (all / 2 ^ 24) (alpha_in s j) byte alpha) (ap (λ (t : Bool). t || not (eqb (alpha_in s j) 255)) i.flag_is);
    }
