-- A pixel as a word: its bytes as the code takes and stores them, and its lanes in a layout. Assumes nothing.
use Prim.Native.Nat.{ℕ, ◌+◌, ◌≤◌, ◌<◌}
use mathlib.Core.Path.{◌≡◌, refl, ◌∙◌}
use mathlib.Core.List.{List, [], ◌∷◌}
use native.Mathlib.Omega.{arith}
use native.Mathlib.Nat.{add-zero}
use lib.ListN.{get_or, set}
use Rattle.std.specs.Int.{w32, to_le_bytes, from_le_bytes}
use Rattle.arithmetic.specs.Matte.{lane_of, pixel_of}
use Rattle.arithmetic.proofs.Mattes.{bytes_lane, pixel_lane}
use Rattle.pixels.specs.Sizes.{pixel_lanes}
use Rattle.pixels_layout.specs.declared.PixelLayout.TheVariants.{Rgba8, Argb8, Bgra8}
use Rattle.pixels_badge.specs.Inner.{word_at, put_word, LanesAre, opaque_word}

-- ---- bytes of a word, as the library takes and makes them
pub word_is : (s : List ℕ) (x : ℕ) {w : ℕ} → w ≡ from_le_bytes w32 (get_or s x 0 ∷ get_or s (x + 1) 0 ∷ get_or s (x + 2) 0 ∷ get_or s (x + 3) 0 ∷ []) → w ≡ word_at s x
unfolding word_at pixel_of
word_is s x e = rw (add-zero x) (e ∙ omega arith)

pub word_put : (s bytes : List ℕ) (x w : ℕ) → bytes ≡ to_le_bytes w32 w
    → set (set (set (set s x (get_or bytes 0 0)) (x + 1) (get_or bytes 1 0)) (x + 2) (get_or bytes 2 0)) (x + 3) (get_or bytes 3 0) ≡ put_word s x w
unfolding put_word
word_put s bytes x w e =
    let lane = bytes_lane w bytes e in
    rw (lane 0 (omega arith), lane 1 (omega arith), lane 2 (omega arith), lane 3 (omega arith)) refl

-- byte k of the word from place x on
pub word_byte : (s : List ℕ) (x : ℕ) → ((y : ℕ) → get_or s y 0 ≤ 255) → (k : ℕ) → k < pixel_lanes → lane_of (word_at s x) k ≡ get_or s (x + k) 0
unfolding word_at
word_byte s x small k h = pixel_lane (λ j. get_or s (x + j) 0) (λ j _. small (x + j)) k h

-- ---- the lanes of each layout
module _ (w : ℕ) (bytes : List ℕ) (e : bytes ≡ to_le_bytes w32 w) where
  lane : (k : ℕ) → k < 4 → get_or bytes k 0 ≡ lane_of w k
  lane = bytes_lane w bytes e

  pub lanes_rgba : LanesAre Rgba8 w (get_or bytes 2 0) (get_or bytes 1 0) (get_or bytes 0 0) (get_or bytes 3 0)
  lanes_rgba = record { blue = lane 2 (omega arith); green = lane 1 (omega arith); red = lane 0 (omega arith); alpha = lane 3 (omega arith) }

  pub lanes_argb : LanesAre Argb8 w (get_or bytes 3 0) (get_or bytes 2 0) (get_or bytes 1 0) (get_or bytes 0 0)
  lanes_argb = record { blue = lane 3 (omega arith); green = lane 2 (omega arith); red = lane 1 (omega arith); alpha = lane 0 (omega arith) }

  pub lanes_bgra : LanesAre Bgra8 w (get_or bytes 0 0) (get_or bytes 1 0) (get_or bytes 2 0) (get_or bytes 3 0)
  lanes_bgra = record { blue = lane 0 (omega arith); green = lane 1 (omega arith); red = lane 2 (omega arith); alpha = lane 3 (omega arith) }

-- ---- the opaque word of three colours
pub opaque_rgba : (b g r : ℕ) → from_le_bytes w32 (r ∷ g ∷ b ∷ 255 ∷ []) ≡ opaque_word Rgba8 b g r
unfolding opaque_word pixel_of
opaque_rgba b g r = omega arith

pub opaque_argb : (b g r : ℕ) → from_le_bytes w32 (255 ∷ r ∷ g ∷ b ∷ []) ≡ opaque_word Argb8 b g r
unfolding opaque_word pixel_of
opaque_argb b g r = omega arith

pub opaque_bgra : (b g r : ℕ) → from_le_bytes w32 (b ∷ g ∷ r ∷ 255 ∷ []) ≡ opaque_word Bgra8 b g r
unfolding opaque_word pixel_of
opaque_bgra b g r = omega arith
