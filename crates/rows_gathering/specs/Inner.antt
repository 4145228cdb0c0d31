-- What the private functions ask and ensure. s are the row's bytes; p k x is byte k of pixel x as it is summed; k counts bytes of a pixel, h is 0 for the
-- first of two pixels and 1 for the second. Assumes nothing.
use Rattle.std.specs.Prelude.{ℕ, ◌+◌, ◌*◌, ◌≤◌, ◌<◌, ◌≡◌, List, length, set}
use Rattle.arithmetic.specs.Sum.{sum}
use Rattle.pixels.specs.Sizes.{pixel_lanes, max_side}
use Rattle.rows.specs.Inner.Import.{Four, oct_at, Bytes}
use Rattle.rows.specs.declared.Oct.{Oct}

-- ---- pixels

-- `count` pixels from pixel x on are in the row
pub record PixelsAsk (s : List ℕ) (x count : ℕ) : Type 0 where
  pub whole : pixel_lanes * (x + count) ≤ length s
  pub small : x + count ≤ max_side

-- r has the bytes of pixel x, and nothing beside it
pub record OneIs (p : ℕ → ℕ → ℕ) (x : ℕ) (r : Oct) : Type 0 where
  pub even : Four (λ k. oct_at r 0 k ≡ p k x)
  pub odd : Four (λ k. oct_at r 1 k ≡ 0)

-- the sum of every second pixel from pixel x + h on, `turns` of them
unfoldable pub step_sum : (ℕ → ℕ) → ℕ → ℕ → ℕ → ℕ
step_sum p x h turns = sum (λ t. p (x + 2 * t + h)) 0 turns

-- the pixels of a column: `count` of them, for a target m wide
pub record ColumnAsks (s : List ℕ) (from count m : ℕ) : Type 0 where
  pub pixels : PixelsAsk s from count
  pub few : count ≤ 512
  pub m_pos : 0 < m
  pub m_small : m ≤ max_side
  pub bytes : Bytes s

-- ---- a block

-- sums stored: four from place i on, the eight of column k
abbrev pub stored4 : List ℕ → ℕ → ℕ → ℕ → ℕ → ℕ → List ℕ
stored4 sums i a b c d = set (set (set (set sums i a) (i + 1) b) (i + 2) c) (i + 3) d

abbrev pub stored8 : List ℕ → ℕ → Oct → List ℕ
stored8 sums k o = stored4 (stored4 sums (8 * k) o.a o.b o.c o.d) (8 * k + 4) o.e o.f o.g o.h

-- sides and a column that make a block, and a row of such
pub record BlockFits (n m first : ℕ) : Type 0 where
  pub shrinks : m ≤ n
  pub n_small : n ≤ max_side
  pub short : n < 512 * m
  pub inside : first < m

pub record BlockAsks (s : List ℕ) (n m first : ℕ) : Type 0 where
  pub fits : BlockFits n m first
  pub whole : length s ≡ pixel_lanes * n
  pub bytes : Bytes s

-- x is where column j begins: over parts of m past j × n
pub record Begins (n m j x over : ℕ) : Type 0 where
  pub made : x * m ≡ j * n + over
  pub over_small : over < m
