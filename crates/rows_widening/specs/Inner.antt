-- What the private functions ask and ensure: relations between what goes in and what comes out. s are the row's bytes, k counts lanes, j columns. Assumes nothing.
use Rattle.std.specs.Prelude.{◌≡◌, ℕ, zero, suc, ◌+◌, ◌*◌, ◌<◌, ◌≤◌, List, length, slice_index, slice_set}
use Rattle.arithmetic.specs.Word.{wrap_add, wrap_mul}
use Rattle.pixels.specs.Sizes.{max_side, max_lanes, half_values, LaneCount}
use Rattle.rows.specs.Lanes.{row_value}
use Rattle.rows.specs.WorkRows.{written}
use Rattle.rows.specs.Inner.Import.{Bytes}

-- lane k of pixel i, of a row of bytes
unfoldable pub byte_of : ℕ → List ℕ → ℕ → ℕ → ℕ
byte_of lanes s k i = slice_index s (lanes * i + k)

-- numbers stored from place `at` on, so many of them
unfoldable pub set_all : List ℕ → ℕ → (ℕ → ℕ) → ℕ → List ℕ
set_all half at f zero = half
set_all half at f (suc c) = slice_set (set_all half at f c) (at + c) (f c)

-- ---- a column where the width grows

-- lane k of pixel x, times so many parts
pub record PartAsks (s : List ℕ) (lanes k x parts : ℕ) : Type 0 where
  pub lane : k < lanes
  pub lanes_small : lanes ≤ max_lanes
  pub inside : lanes * x + lanes ≤ length s
  pub x_small : x < max_side
  pub parts_small : parts ≤ max_side

-- lane k: so many parts of the pixel `left`, and of the pixel `right`
unfoldable pub between_value : ℕ → List ℕ → ℕ → ℕ → ℕ → ℕ → ℕ → ℕ
between_value lanes s left right acc rest k = wrap_add (wrap_mul (byte_of lanes s k left) acc) (wrap_mul (byte_of lanes s k right) rest)

pub record BetweenAsks (s : List ℕ) (lanes left right acc rest : ℕ) (half : List ℕ) (at : ℕ) : Type 0 where
  pub lane_count : LaneCount lanes
  pub left_in : lanes * left + lanes ≤ length s
  pub right_in : lanes * right + lanes ≤ length s
  pub left_small : left < max_side
  pub right_small : right < max_side
  pub acc_small : acc ≤ max_side
  pub rest_small : rest ≤ max_side
  pub room : at + lanes ≤ length half

-- acc parts of pixel x are used up, `step` of them a column, and each pixel passed brings `span` more
pub record StandAsks (span step x acc : ℕ) : Type 0 where
  pub most : acc ≤ span + step
  pub span_small : span < max_side
  pub step_small : step ≤ span
  pub x_small : x < max_side

pub record StandIs (span step x acc x' acc' : ℕ) : Type 0 where
  pub along : acc' + step + x * span ≡ acc + x' * span
  pub small : acc' ≤ span
  pub on : (acc < step → x' ≡ suc x) × (step ≤ acc → x' ≡ x)

-- ---- a row
pub record RowAsks (s half : List ℕ) (lanes n m : ℕ) : Type 0 where
  pub lane_count : LaneCount lanes
  pub n_pos : 0 < n
  pub n_small : n ≤ max_side
  pub m_pos : 0 < m
  pub m_small : m ≤ max_side
  pub whole : length s ≡ lanes * n
  pub room : half_values lanes m ≤ length half
  pub bytes : Bytes s

-- the values of the lanes, over the beginning of a half
abbrev pub row_written : ℕ → ℕ → ℕ → List ℕ → List ℕ → List ℕ
row_written lanes n m s half = written (half_values lanes m) (row_value lanes (byte_of lanes s) n m) half
