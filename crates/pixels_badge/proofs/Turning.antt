-- A block of a badge turned into the background's order, with its alphas beside it, a pixel a turn. Assumes nothing.
use Prim.Native.Nat.{ℕ, ◌+◌, ◌*◌, ◌/◌, ◌%◌, ◌^◌, ◌≤◌, ◌<◌}
use mathlib.Core.Path.{◌≡◌, refl, ap, ◌∙◌}
use mathlib.Core.Bool.{cond}
use mathlib.Core.List.{List, [], ◌∷◌}
use native.Mathlib.Omega.{arith}
use native.Mathlib.Nat.{add-zero}
use lib.Dec.{eqb}
use lib.ListN.{length, get_or}
use Rattle.arithmetic.specs.Matte.{lane_of}
use Rattle.arithmetic.proofs.Mattes.{lane_byte_lem, pixel_lane}
use Rattle.arithmetic.proofs.Stores.{Stored, none_stored, store_four, same, all_stored}
use Rattle.pixels.specs.Sizes.{pixel_lanes}
use Rattle.pixels_layout.specs.declared.PixelLayout.{PixelLayout}
use Rattle.pixels_layout.specs.Layout.{alpha_lane, place_of, lane_at, alpha_at}
use Rattle.pixels_layout.proofs.Tabled.{each_lane, place_lt}
use Rattle.pixels_badge.specs.Inner.{word_at, put_word, LanesAre, opaque_word, alpha_in, colour_in, filled_by, TurnAsks}
use Rattle.pixels_badge.proofs.Words.{word_byte}

-- ---- the four bytes of a pixel's alphas
low : (a x w : ℕ) → a ≤ 255 → w ≡ 256 * x + a → w % 256 ≡ a
low a x w h e = omega arith

alphas_word : (a j : ℕ) → a ≤ 255 → j < pixel_lanes → lane_of (65537 * a) j ≡ cond (eqb (j % 2) 0) a 0
unfolding lane_of
alphas_word a j h =
    let one : 65537 * a / 2 ^ 8 ≡ 256 * a = omega arith in
    let two : 65537 * a / 2 ^ 16 ≡ a = omega arith in
    let three : 65537 * a / 2 ^ 24 ≡ 0 = omega arith in
    let zero : 65537 * a / 1 ≡ 256 * (256 * a) + a = omega arith in
    each_lane (λ k. lane_of (65537 * a) k ≡ cond (eqb (k % 2) 0) a 0)
    (low a (256 * a) (65537 * a / 1) h zero)
    (rw one (low 0 a (256 * a) (omega arith) (omega arith)))
    (rw two (low a 0 a h (omega arith)))
    (rw three refl)
    j

-- ---- the four bytes of its colours
module _ (layout from : PixelLayout) (badge : List ℕ) (small : (y : ℕ) → get_or badge y 0 ≤ 255) {at w : ℕ} (even : at ≡ pixel_lanes * (at / pixel_lanes)) (e : w ≡ word_at badge at) where
  lane_is : (k : ℕ) → k < pixel_lanes → lane_of w (place_of from k) ≡ lane_at from badge (at / pixel_lanes) k
  lane_is k h =
      ap (λ (t : ℕ). lane_of t (place_of from k)) e
      ∙ word_byte badge at small (place_of from k) (place_lt from k h)
      ∙ ap (λ (t : ℕ). get_or badge (t + place_of from k) 0) even

  module _ {b g r a : ℕ} (l : LanesAre from w b g r a) where
    alpha_is : a ≡ alpha_at from badge (at / pixel_lanes)
    alpha_is = l.alpha ∙ lane_is alpha_lane (omega arith)

    quotient : (j : ℕ) → j < pixel_lanes → (at + j) / pixel_lanes ≡ at / pixel_lanes
    quotient j h = omega arith

    remainder : (j : ℕ) → j < pixel_lanes → (at + j) % pixel_lanes ≡ j
    remainder j h = omega arith

    second : (j : ℕ) → j < pixel_lanes → (at + j) % 2 ≡ j % 2
    second j h = omega arith

    alpha_byte_lem : {v : ℕ} → v ≡ 65537 * a → (j : ℕ) → j < pixel_lanes → lane_of v j ≡ alpha_in from badge (at + j)
    unfolding alpha_in
    alpha_byte_lem {v} q j h =
        let byte : a ≤ 255 = rw alpha_is (small _) in
        ap (λ (t : ℕ). lane_of t j) q ∙ alphas_word a j byte h ∙ rw (second j h, quotient j h, alpha_is) refl

    lane_of_lem : (k : ℕ) → k < pixel_lanes → get_or (b ∷ g ∷ r ∷ 255 ∷ []) k 0 ≡ cond (eqb k alpha_lane) 255 (lane_at from badge (at / pixel_lanes) k)
    lane_of_lem =
        each_lane (λ k. get_or (b ∷ g ∷ r ∷ 255 ∷ []) k 0 ≡ cond (eqb k alpha_lane) 255 (lane_at from badge (at / pixel_lanes) k))
        (l.blue ∙ lane_is 0 (omega arith))
        (l.green ∙ lane_is 1 (omega arith))
        (l.red ∙ lane_is 2 (omega arith))
        refl

    lane_small : (k : ℕ) → k < pixel_lanes → get_or (b ∷ g ∷ r ∷ 255 ∷ []) k 0 ≤ 255
    lane_small =
        each_lane (λ k. get_or (b ∷ g ∷ r ∷ 255 ∷ []) k 0 ≤ 255)
        (rw l.blue (lane_byte_lem w (place_of from 0)))
        (rw l.green (lane_byte_lem w (place_of from 1)))
        (rw l.red (lane_byte_lem w (place_of from 2)))
        (omega arith)

    colour_byte : {v : ℕ} → v ≡ opaque_word layout b g r → (j : ℕ) → j < pixel_lanes → lane_of v j ≡ colour_in layout from badge (at + j)
    unfolding opaque_word colour_in
    colour_byte q j h =
        ap (λ (t : ℕ). lane_of t j) q
        ∙ pixel_lane (λ i. get_or (b ∷ g ∷ r ∷ 255 ∷ []) (place_of layout i) 0) (λ i li. lane_small (place_of layout i) (place_lt layout i li)) j h
        ∙ lane_of_lem (place_of layout j) (place_lt layout j h)
        ∙ rw (remainder j h, quotient j h) refl

-- ---- the loop: `at` bytes of both are there
pub record Turning (layout from : PixelLayout) (badge alphas₀ colours₀ alphas colours : List ℕ) (at : ℕ) : Type 0 where
  pub even : at ≡ pixel_lanes * (at / pixel_lanes)
  pub alphas_so : Stored (alpha_in from badge) alphas₀ alphas (length badge) at
  pub colours_so : Stored (colour_in layout from badge) colours₀ colours (length badge) at

pub turning_first : (layout from : PixelLayout) {badge alphas colours : List ℕ} → TurnAsks badge alphas colours → Turning layout from badge alphas colours alphas colours 0
turning_first layout from {badge} q =
    record { even = omega arith; alphas_so = none_stored (alpha_in from badge) q.alphas_room; colours_so = none_stored (colour_in layout from badge) q.colours_room }

module _ {layout from : PixelLayout} {badge alphas₀ colours₀ alphas colours : List ℕ} {at : ℕ} (i : Turning layout from badge alphas₀ colours₀ alphas colours at) where
  pub turning_room : at < length badge → TurnAsks badge alphas₀ colours₀ → at + pixel_lanes ≤ length badge
  turning_room more q = omega (arith, i.even, q.whole)

  pub alphas_room : at + pixel_lanes ≤ length badge → TurnAsks badge alphas₀ colours₀ → at + pixel_lanes ≤ length alphas
  alphas_room h q = omega (arith, same i.alphas_so, q.alphas_room)

  pub colours_room : at + pixel_lanes ≤ length badge → TurnAsks badge alphas₀ colours₀ → at + pixel_lanes ≤ length colours
  colours_room h q = omega (arith, same i.colours_so, q.colours_room)

  pub turning_turn : ((y : ℕ) → get_or badge y 0 ≤ 255) → at + pixel_lanes ≤ length badge → {w b g r a u v : ℕ} {alphas' colours' : List ℕ}
      → w ≡ word_at badge at → LanesAre from w b g r a → u ≡ 65537 * a → v ≡ opaque_word layout b g r
      → alphas' ≡ put_word alphas at u → colours' ≡ put_word colours at v → Turning layout from badge alphas₀ colours₀ alphas' colours' (at + pixel_lanes)
  unfolding put_word
  turning_turn small room e l eu ev ea ec =
      let x = alpha_byte_lem layout from badge small i.even e l eu in
      let y = colour_byte layout from badge small i.even e l ev in
      let x0 = x 0 (omega arith) ∙ ap (alpha_in from badge) (add-zero at) in
      let y0 = y 0 (omega arith) ∙ ap (colour_in layout from badge) (add-zero at) in
      record {
        even = omega (arith, i.even);
        alphas_so = rw ea (store_four i.alphas_so room x0 (x 1 (omega arith)) (x 2 (omega arith)) (x 3 (omega arith)));
        colours_so = rw ec (store_four i.colours_so room y0 (y 1 (omega arith)) (y 2 (omega arith)) (y 3 (omega arith)));
      }

  pub alphas_done : length badge ≤ at → alphas ≡ filled_by (alpha_in from badge) (length badge) alphas₀
  alphas_done h = all_stored i.alphas_so h

  pub colours_done : length badge ≤ at → colours ≡ filled_by (colour_in layout from badge) (length badge) colours₀
  colours_done h = all_stored i.colours_so h
