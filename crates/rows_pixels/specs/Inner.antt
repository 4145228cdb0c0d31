-- What the private functions ask and ensure: relations between what goes in and what comes out. s are the row's bytes, n pixels of them; m is the target's
-- width; the alpha stands at `place` of a pixel. Assumes nothing.
use Rattle.std.specs.Prelude.{ℕ, ◌+◌, ◌-◌, ◌*◌, ◌%◌, ◌^◌, ◌≤◌, ◌<◌, min, ◌≡◌, List, length, get_or}
use Rattle.arithmetic.specs.FixedPoint.{mult}
use Rattle.arithmetic.specs.Word.{wrap_sub, wrap_mul}
use Rattle.pixels.specs.Sizes.{pixel_lanes, max_side}
use Rattle.pixels_layout.specs.declared.Places.{Places}
use Rattle.rows.specs.declared.Quad.{Quad}
use Rattle.rows.specs.Column.{column_sum}
use Rattle.rows.specs.Tones.{toned_at}
use Rattle.rows.specs.Inner.Import.{at, Four, Bytes, Within}

-- the pixels of a column, from `from` up to `to`
pub record TotalAsks (s : List ℕ) (from to : ℕ) : Type 0 where
  pub some : from < to
  pub whole : pixel_lanes * to ≤ length s
  pub small : to ≤ max_side

-- ---- a column

-- the alpha has a place of its own
pub record Apart (p : Places) : Type 0 where
  pub blue : p.b ≡ p.a → ⊥
  pub green : p.g ≡ p.a → ⊥
  pub red : p.r ≡ p.a → ⊥

-- four numbers of a pixel's bytes as lanes B, G, R, A
abbrev pub in_lanes : Places → (ℕ → ℕ) → Quad
in_lanes p f = record { a = f p.b; b = f p.g; c = f p.r; d = f p.a }

pub record InLanes (p : Places) (f : ℕ → ℕ) (r : Quad) : Type 0 where
  pub blue : r.a ≡ f p.b
  pub green : r.b ≡ f p.g
  pub red : r.c ≡ f p.r
  pub alpha : r.d ≡ f p.a

pub record EndAsks (half : List ℕ) (j m over : ℕ) (p : Places) : Type 0 where
  pub room : pixel_lanes * j + pixel_lanes ≤ length half
  pub j_small : j < max_side
  pub m_small : m ≤ max_side
  pub over_small : over < m
  pub places : Within p

-- the value of byte k, of the total that carry and pixels make and of the last pixel; and what it carries on
unfoldable pub end_value : ℕ → ℕ → Quad → Quad → ℕ → ℕ
end_value m over total last k = wrap_sub (wrap_mul (at total k) m) (wrap_mul (at last k) over)

unfoldable pub end_carry : ℕ → ℕ → Quad → ℕ → ℕ
end_carry scale over last k = mult (wrap_mul (at last k) over) scale

-- ---- a block of columns

-- two sums that make a number of 32 bits
pub record PairAsks (sums : List ℕ) (i : ℕ) : Type 0 where
  pub inside : i + 4 < 256
  pub small : get_or sums i 0 + get_or sums (i + 4) 0 < 2 ^ 32

-- the sums of the columns from `first` on: of each the two halves of its pixels
pub record Filled (s : List ℕ) (place n m first : ℕ) (sums : List ℕ) : Type 0 where
  pub column : (k : ℕ) → k < min 32 (m - first)
      → Four (λ i. get_or sums (8 * k + i) 0 + get_or sums (8 * k + i + 4) 0 ≡ column_sum (toned_at s place i) n m (first + k))

-- those of the block that column j is in, where it does not begin one
abbrev pub Ready : List ℕ → ℕ → ℕ → ℕ → ℕ → List ℕ → Type 0
Ready s place n m j sums = 0 < j % 32 → Filled s place n m (j - j % 32) sums

pub record FillAsks (s : List ℕ) (n m j : ℕ) : Type 0 where
  pub shrinks : m ≤ n
  pub n_small : n ≤ max_side
  pub few : n < 512 * m
  pub below : j < m
  pub whole : length s ≡ pixel_lanes * n
  pub bytes : Bytes s

pub record BlockAsks (n m : ℕ) : Type 0 where
  pub shrinks : m ≤ n
  pub few : n < 512 * m
