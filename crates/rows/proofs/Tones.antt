-- A byte as it is summed is the matted colour, or the alpha itself: so the bytes of a pixel at a layout's places are its lanes. Assumes nothing.
use Rattle.std.proofs.Common.{◌≡◌, ℕ, zero, suc, ◌+◌, ◌*◌, ◌/◌, ◌%◌, ◌^◌, ◌<◌, ◌≤◌, List, [], ◌∷◌, get_or, refl, ap, ◌∙◌, arith, eq-eqb, ne_eqb}
use lib.Bits.{bit_or, bit_and, or_zero_r, or_add_and, or_lt, and_mask, and_comm}
use Rattle.arithmetic.specs.Matte.{scale_colour, matte_factor}
use Rattle.arithmetic.proofs.Mattes.{matte_halves}
use Rattle.rows.specs.Tones.{own_at, orred, toned, toned_at}
use Rattle.rows.specs.Inner.Import.{Four, Bytes, byte_at, matted_at}
use Rattle.rows.proofs.Lanes.{byte_byte, matte_byte}

-- ---- the factor
pub orred_small : (a o : ℕ) → a ≤ 255 → orred a o ≤ 255
unfolding orred
orred_small a o h = below (bit_or a (o % 256)) (or_lt 8 a (o % 256) (omega arith) (omega arith))
  where
    below : (x : ℕ) → x < 2 ^ 8 → x ≤ 255
    below x l = omega arith

-- of a byte all bits are low
pub orred_byte : (a o : ℕ) → o ≤ 255 → bit_or a o ≡ orred a o
unfolding orred
orred_byte a o h = ap (bit_or a) (omega arith)

orred_none : (a : ℕ) → orred a 0 ≡ a
unfolding orred
orred_none a = or_zero_r a

orred_all : (a : ℕ) → a ≤ 255 → orred a 255 ≡ 255
unfolding orred
orred_all a h = whole (bit_or a 255) (bit_and a 255) (or_add_and a 255) (and_mask a 8)
  where
    whole : (x y : ℕ) → x + y ≡ a + 255 → y ≡ a % 2 ^ 8 → x ≡ 255
    whole x y p q = omega arith

orred_opaque : (o : ℕ) → orred 255 o ≡ 255
unfolding orred
orred_opaque o = whole (bit_or 255 (o % 256)) (bit_and 255 (o % 256)) (or_add_and 255 (o % 256)) (and_comm 255 (o % 256) ∙ and_mask (o % 256) 8)
  where
    whole : (x y : ℕ) → x + y ≡ 255 + o % 256 → y ≡ o % 256 % 2 ^ 8 → x ≡ 255
    whole x y p q = omega arith

-- low bits are their own low bits
pub toned_low : (c a o : ℕ) {b : ℕ} → b ≡ o % 256 → toned c a b ≡ toned c a o
unfolding toned orred
toned_low c a o {b} e = ap (λ (x : ℕ). scale_colour c (matte_factor (bit_or a x))) (let low : b % 256 ≡ o % 256 = omega arith in low)

-- ---- the matte: t×257 / 65536 for (t + t / 256) / 256
pub matte_257 : (c f : ℕ) → c ≤ 255 → f ≤ 255 → scale_colour c (matte_factor f) ≡ (c * f + 128) * 257 / 65536
matte_257 c f hc hf = matte_halves c f hc hf ∙ go (c * f + 128)
  where
    go : (t : ℕ) → (t + t / 256) / 256 ≡ t * 257 / 65536
    go t = omega arith

scaled : (c : ℕ) → scale_colour c (matte_factor 0) ≡ 0
unfolding scale_colour matte_factor
scaled c = omega arith

pub toned_none : (c a : ℕ) → toned c a 0 ≡ scale_colour c (matte_factor a)
unfolding toned
toned_none c a = ap (λ (f : ℕ). scale_colour c (matte_factor f)) (orred_none a)

-- by an alpha of 0 nothing is left
pub toned_zero : (c : ℕ) → toned c 0 0 ≡ 0
toned_zero c = toned_none c 0 ∙ scaled c

pub toned_all : (c a : ℕ) → c ≤ 255 → a ≤ 255 → toned c a 255 ≡ c
unfolding toned
toned_all c a hc ha =
    ap (λ (f : ℕ). scale_colour c (matte_factor f)) (orred_all a ha)
    ∙ matte_257 c 255 hc (omega arith)
    ∙ omega arith

-- a byte of an opaque pixel is itself, whatever is or-ed to its alpha
pub toned_opaque : (c o : ℕ) → c ≤ 255 → toned c 255 o ≡ c
unfolding toned
toned_opaque c o hc =
    ap (λ (f : ℕ). scale_colour c (matte_factor f)) (orred_opaque o)
    ∙ matte_257 c 255 hc (omega arith)
    ∙ omega arith

-- bytes in, a byte out
pub toned_byte : (c a o : ℕ) → c ≤ 255 → a ≤ 255 → toned c a o ≤ 255
unfolding toned
toned_byte c a o hc ha = matte_byte c (orred a o) hc (orred_small a o ha)

-- ---- a pixel of a row
module _ (s : List ℕ) (bytes : Bytes s) where
  pub toned_colour : (place k x : ℕ) → (k ≡ place → ⊥) → toned_at s place k x ≡ matted_at s place k x
  unfolding toned_at own_at matted_at
  toned_colour place k x h = simp (ne_eqb k place h) (toned_none (byte_at s k x) (byte_at s place x))

  pub toned_at_byte : (place k x : ℕ) → toned_at s place k x ≤ 255
  unfolding toned_at
  toned_at_byte place k x = toned_byte (byte_at s k x) (byte_at s place x) (own_at place k) (byte_byte s bytes k x) (byte_byte s bytes place x)

  pub toned_at_opaque : (place k x : ℕ) → byte_at s place x ≡ 255 → toned_at s place k x ≡ byte_at s k x
  unfolding toned_at
  toned_at_opaque place k x e = rw e (toned_opaque (byte_at s k x) (own_at place k) (byte_byte s bytes k x))

  pub toned_alpha : (place x : ℕ) → toned_at s place place x ≡ byte_at s place x
  unfolding toned_at own_at
  toned_alpha place x = simp (eq-eqb place place refl) (toned_all (byte_at s place x) (byte_at s place x) (byte_byte s bytes place x) (byte_byte s bytes place x))

-- ---- the table of what is or-ed
abbrev whole : List (List ℕ)
whole = (255 ∷ 0 ∷ 0 ∷ 0 ∷ []) ∷ (0 ∷ 255 ∷ 0 ∷ 0 ∷ []) ∷ (0 ∷ 0 ∷ 255 ∷ 0 ∷ []) ∷ (0 ∷ 0 ∷ 0 ∷ 255 ∷ []) ∷ []

pub own_table : (place : ℕ) → place ≤ 3 → Four (λ k. get_or (get_or whole place []) k 0 ≡ own_at place k)
unfolding own_at
own_table zero h = record { l0 = refl; l1 = refl; l2 = refl; l3 = refl }
own_table (suc zero) h = record { l0 = refl; l1 = refl; l2 = refl; l3 = refl }
own_table (suc (suc zero)) h = record { l0 = refl; l1 = refl; l2 = refl; l3 = refl }
own_table (suc (suc (suc zero))) h = record { l0 = refl; l1 = refl; l2 = refl; l3 = refl }
own_table (suc (suc (suc (suc place)))) h = absurd (omega arith)

pub own_beyond : (place k : ℕ) → 3 < place → k ≤ 3 → 0 ≡ own_at place k
unfolding own_at
own_beyond place k h l = simp (ne_eqb k place (λ e. omega arith))
