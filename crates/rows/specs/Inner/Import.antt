-- What private functions of the crates that import a row ask and ensure: relations between what goes in and what comes out. s are the row's bytes, n pixels of them;
-- m is the target's width. The laws of proofs/Columns.antt lead from here to the values of specs/Column.antt. Assumes nothing.
use Rattle.std.specs.Prelude.{◌≡◌, ℕ, zero, suc, ◌+◌, ◌-◌, ◌*◌, ◌<◌, ◌≤◌, List, length, slice_index, slice_set}
use Rattle.arithmetic.specs.FixedPoint.{mult}
use Rattle.arithmetic.specs.Matte.{scale_colour, matte_factor}
use Rattle.arithmetic.specs.Sum.{sum}
use Rattle.pixels_layout.specs.declared.Places.{Places}
use Rattle.pixels.specs.Sizes.{pixel_lanes, max_side, half_values}
use Rattle.rows.specs.Lanes.{row_value}
use Rattle.rows.specs.WorkRows.{written}
use Rattle.rows.specs.declared.Oct.{Oct}
use Rattle.rows.specs.declared.Quad.{Quad}

-- ---- four numbers
abbrev pub at : Quad → ℕ → ℕ
at q zero = q.a
at q (suc zero) = q.b
at q (suc (suc zero)) = q.c
at q (suc (suc (suc k))) = q.d

-- what holds of each
pub record Four (P : ℕ → Type 0) : Type 0 where
  pub l0 : P 0
  pub l1 : P 1
  pub l2 : P 2
  pub l3 : P 3

-- ---- eight numbers, byte k of the first (h is 0) or the second of two pixels: those of the first of two pixels, then those of the second
abbrev pub oct_at : Oct → ℕ → ℕ → ℕ
oct_at o zero zero = o.a
oct_at o zero (suc zero) = o.b
oct_at o zero (suc (suc zero)) = o.c
oct_at o zero (suc (suc (suc k))) = o.d
oct_at o (suc h) zero = o.e
oct_at o (suc h) (suc zero) = o.f
oct_at o (suc h) (suc (suc zero)) = o.g
oct_at o (suc h) (suc (suc (suc k))) = o.h

-- what holds of each
pub record Eight (P : ℕ → ℕ → Type 0) : Type 0 where
  pub even : Four (P 0)
  pub odd : Four (P 1)

-- stored at column j of a half
abbrev pub stored : List ℕ → ℕ → Quad → List ℕ
stored half j v =
    slice_set (slice_set (slice_set (slice_set half (pixel_lanes * j) v.a) (pixel_lanes * j + 1) v.b) (pixel_lanes * j + 2) v.c) (pixel_lanes * j + 3) v.d

-- ---- the row's bytes
abbrev pub Bytes : List ℕ → Type 0
Bytes s = (i : ℕ) → slice_index s i ≤ 255

-- byte k of pixel i
unfoldable pub byte_at : List ℕ → ℕ → ℕ → ℕ
byte_at s k i = slice_index s (pixel_lanes * i + k)

-- the same matted by the byte at pa
unfoldable pub matted_at : List ℕ → ℕ → ℕ → ℕ → ℕ
matted_at s pa k i = scale_colour (byte_at s k i) (matte_factor (byte_at s pa i))

-- lane k of pixel i, where p has the places of the lanes: three colours matted, and the alpha
unfoldable pub lane_bytes : Places → List ℕ → ℕ → ℕ → ℕ
lane_bytes p s zero = matted_at s p.a p.b
lane_bytes p s (suc zero) = matted_at s p.a p.g
lane_bytes p s (suc (suc zero)) = matted_at s p.a p.r
lane_bytes p s (suc (suc (suc k))) = byte_at s p.a

-- places within a pixel
pub record Within (p : Places) : Type 0 where
  pub b_in : p.b < pixel_lanes
  pub g_in : p.g < pixel_lanes
  pub r_in : p.r < pixel_lanes
  pub a_in : p.a < pixel_lanes

pub record PixelAsks (s : List ℕ) (x : ℕ) : Type 0 where
  pub whole : pixel_lanes * x + pixel_lanes ≤ length s
  pub small : x < max_side

-- ---- pixels summed: those from x up to next
pub record Lane (p : ℕ → ℕ) (x next total last : ℕ) : Type 0 where
  pub sum_is : total ≡ sum p x (next - x)
  pub last_is : last ≡ p (next - 1)

-- ---- a column where the width does not grow
pub record LaneColumn (p : ℕ → ℕ) (m scale x next debt carry value carry' : ℕ) : Type 0 where
  pub value_is : value ≡ (carry + sum p x (next - x)) * m - p (next - 1) * debt
  pub carry_is : carry' ≡ mult (p (next - 1) * debt) scale

-- ---- a row

-- the values of lanes at the places p, over the beginning of a half
abbrev pub written_row : Places → ℕ → ℕ → List ℕ → List ℕ → List ℕ
written_row p n m s half = written (half_values pixel_lanes m) (row_value pixel_lanes (lane_bytes p s) n m) half

pub record RowAsks (s half : List ℕ) (n m : ℕ) (p : Places) : Type 0 where
  pub n_pos : 0 < n
  pub n_small : n ≤ max_side
  pub m_pos : 0 < m
  pub m_small : m ≤ max_side
  pub whole : length s ≡ pixel_lanes * n
  pub room : half_values pixel_lanes m ≤ length half
  pub places : Within p
  pub bytes : Bytes s
