-- A block of a background blended, two bytes a turn. Assumes nothing.
use Prim.Native.Nat.{ℕ, ◌+◌, ◌*◌, ◌/◌, ◌%◌, ◌^◌, ◌≤◌, ◌<◌}
use mathlib.Core.Path.{◌≡◌, refl, sym, ap, ◌∙◌}
use mathlib.Core.List.{List, [], ◌∷◌}
use native.Mathlib.Omega.{arith}
use lib.ListN.{length, get_or, set}
use Rattle.std.specs.Int.{w16, to_le_bytes, from_le_bytes}
use Rattle.arithmetic.proofs.Stores.{Stored, none_stored, store, place, same, ahead, filled}
use Rattle.pixels_badge.specs.Badge.{blended}
use Rattle.pixels_badge.specs.Inner.{pair_at, put_pair, blended_pair, blended_in, blended_block, BlockAsks}
use Rattle.pixels_badge.proofs.Sums.{blended_most}

-- ---- two bytes as a number
low_of : (s : List ℕ) (x : ℕ) → get_or s x 0 ≤ 255 → pair_at s x % 256 ≡ get_or s x 0
unfolding pair_at
low_of s x h = omega arith

high_of : (s : List ℕ) (x : ℕ) → get_or s x 0 ≤ 255 → pair_at s x / 256 ≡ get_or s (x + 1) 0
unfolding pair_at
high_of s x h = omega arith

pub pair_is : (s : List ℕ) (x : ℕ) {v : ℕ} → v ≡ from_le_bytes w16 (get_or s x 0 ∷ get_or s (x + 1) 0 ∷ []) → v ≡ pair_at s x
unfolding pair_at
pair_is s x e = e ∙ omega arith

pub pair_put : (s bytes : List ℕ) (x v : ℕ) → v < 2 ^ 16 → bytes ≡ to_le_bytes w16 v → set (set s x (get_or bytes 0 0)) (x + 1) (get_or bytes 1 0) ≡ put_pair s x v
unfolding put_pair
pair_put s bytes x v small e =
    let low : get_or bytes 0 0 ≡ v % 256 = rw e refl in
    let high : get_or bytes 1 0 ≡ v / 256 = rw e (omega arith) in
    rw (low, high) refl

-- ---- two bytes blended
module _ (alpha over under : ℕ) (h : over < 2 ^ 16) (k : under < 2 ^ 16) where
  pub low_most : blended (alpha % 256) (over % 256) (under % 256) ≤ 255
  low_most = blended_most (alpha % 256) (over % 256) (under % 256) (omega arith) (omega arith) (omega arith)

  pub high_most : blended (alpha % 256) (over / 256) (under / 256) ≤ 255
  high_most = blended_most (alpha % 256) (over / 256) (under / 256) (omega arith) (omega arith) (omega arith)

  pub pair_blended : {x y : ℕ} → x ≡ blended (alpha % 256) (over % 256) (under % 256) → y ≡ blended (alpha % 256) (over / 256) (under / 256) → x + 256 * y ≡ blended_pair alpha over under
  unfolding blended_pair
  pair_blended e f = rw (e, f) refl

  pub pair_low : blended_pair alpha over under % 256 ≡ blended (alpha % 256) (over % 256) (under % 256)
  unfolding blended_pair
  pair_low = omega (arith, low_most)

  pub pair_high : blended_pair alpha over under / 256 ≡ blended (alpha % 256) (over / 256) (under / 256)
  unfolding blended_pair
  pair_high = omega (arith, low_most)

-- ---- the loop: `x` bytes are blended
pub record Blending (pixels alphas colours s : List ℕ) (x : ℕ) : Type 0 where
  pub even : x ≡ 2 * (x / 2)
  pub bytes : Stored (blended_in pixels alphas colours) pixels s (length pixels) x

pub blending_first : (pixels alphas colours : List ℕ) → Blending pixels alphas colours pixels 0
blending_first pixels alphas colours = record { even = omega arith; bytes = none_stored (blended_in pixels alphas colours) (omega arith) }

module _ {pixels alphas colours s : List ℕ} {x : ℕ} (i : Blending pixels alphas colours s x) where
  module _ (q : BlockAsks pixels alphas colours) (more : x < length s) where
    pub blending_room : x + 2 ≤ length s
    blending_room = omega (arith, i.even, q.whole, same i.bytes)

    pub alphas_room : x + 2 ≤ length alphas
    alphas_room = omega (arith, blending_room, q.alphas_room, same i.bytes)

    pub colours_room : x + 2 ≤ length colours
    colours_room = omega (arith, blending_room, q.colours_room, same i.bytes)

    module _ (whole : (y : ℕ) → get_or pixels y 0 ≤ 255) (ks : (y : ℕ) → get_or alphas y 0 ≤ 255) (cs : (y : ℕ) → get_or colours y 0 ≤ 255) where
      ahead_small : (y : ℕ) → x ≤ y → get_or s y 0 ≤ 255
      ahead_small y h = rw (ahead i.bytes y h) (whole y)

      colours_pair : pair_at colours x < 2 ^ 16
      unfolding pair_at
      colours_pair = omega (arith, cs x, cs (x + 1))

      pixels_pair : pair_at s x < 2 ^ 16
      unfolding pair_at
      pixels_pair = omega (arith, ahead_small x (omega arith), ahead_small (x + 1) (omega arith))

      low : blended_pair (pair_at alphas x) (pair_at colours x) (pair_at s x) % 256 ≡ blended_in pixels alphas colours x
      unfolding blended_in
      low =
          let e : 2 * (x / 2) ≡ x = sym i.even in
          pair_low (pair_at alphas x) (pair_at colours x) (pair_at s x) colours_pair pixels_pair
          ∙ rw (low_of alphas x (ks x), low_of colours x (cs x), low_of s x (ahead_small x (omega arith)), ahead i.bytes x (omega arith), e) refl

      high : blended_pair (pair_at alphas x) (pair_at colours x) (pair_at s x) / 256 ≡ blended_in pixels alphas colours (x + 1)
      unfolding blended_in
      high =
          let e : 2 * ((x + 1) / 2) ≡ x = omega (arith, i.even) in
          pair_high (pair_at alphas x) (pair_at colours x) (pair_at s x) colours_pair pixels_pair
          ∙ rw (low_of alphas x (ks x), high_of colours x (cs x), high_of s x (ahead_small x (omega arith)), ahead i.bytes (x + 1) (omega arith), e) refl

      pub blending_turn : {a o u v : ℕ} {s' : List ℕ} → a ≡ pair_at alphas x → o ≡ pair_at colours x → u ≡ pair_at s x → v ≡ blended_pair a o u → s' ≡ put_pair s x v
          → Blending pixels alphas colours s' (x + 2)
      unfolding put_pair
      blending_turn {a} {o} {u} {v} ea eo eu ev p =
          let is : v ≡ blended_pair (pair_at alphas x) (pair_at colours x) (pair_at s x) = ev ∙ rw (ea, eo, eu) refl in
          let lo : v % 256 ≡ blended_in pixels alphas colours x = ap (λ (t : ℕ). t % 256) is ∙ low in
          let hi : v / 256 ≡ blended_in pixels alphas colours (x + 1) = ap (λ (t : ℕ). t / 256) is ∙ high in
          let room : x + 2 ≤ length pixels = omega (arith, blending_room, same i.bytes) in
          record {
            even = omega (arith, i.even);
            bytes = rw p (place (store (store i.bytes (omega arith) lo) (omega arith) hi) (x + 2) (omega arith));
          }

  pub blending_done : length s ≤ x → s ≡ blended_block pixels alphas colours
  unfolding blended_block
  blending_done h = filled i.bytes refl (omega (arith, same i.bytes))
