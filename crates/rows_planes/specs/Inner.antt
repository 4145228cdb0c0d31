-- What the private functions ask and ensure: relations between what goes in and what comes out. s are the row's bytes, k counts lanes, j columns. Assumes nothing.
use Rattle.std.specs.Prelude.{ℕ, ◌+◌, ◌-◌, ◌*◌, ◌<◌, ◌≤◌, List, length, slice_index}
use Rattle.arithmetic.specs.Word.{wrap_add, wrap_sub, wrap_mul}
use Rattle.arithmetic.specs.FixedPoint.{mult}
use Rattle.arithmetic.specs.Sum.{sum}
use Rattle.pixels.specs.Sizes.{max_side, max_lanes, LaneCount}
use Rattle.rows.specs.Inner.Import.{Bytes}
use Rattle.rows_widening.specs.Inner.{byte_of}

-- ---- pixels summed: `count` of them from pixel `from` on
pub record SumAsks (s : List ℕ) (lanes k from count : ℕ) : Type 0 where
  pub lane : k < lanes
  pub lanes_small : lanes ≤ max_lanes
  pub whole : lanes * (from + count) ≤ length s
  pub small : from + count ≤ max_side
  pub bytes : Bytes s

-- ---- a column where the width does not grow

-- the value and the carry of lane k of a column, of the carries before it
unfoldable pub column_value : ℕ → List ℕ → ℕ → ℕ → ℕ → ℕ → List ℕ → ℕ → ℕ
column_value lanes s m from to over carries k =
    wrap_sub (wrap_mul (wrap_add (slice_index carries k) (sum (byte_of lanes s k) from (to - from))) m) (wrap_mul (byte_of lanes s k (to - 1)) over)

unfoldable pub column_carry : ℕ → List ℕ → ℕ → ℕ → ℕ → ℕ → ℕ
column_carry lanes s scale to over k = mult (wrap_mul (byte_of lanes s k (to - 1)) over) scale

pub record PutAsks (s : List ℕ) (lanes m each from to over : ℕ) (carries half : List ℕ) (at : ℕ) : Type 0 where
  pub lane_count : LaneCount lanes
  pub m_small : m ≤ max_side
  pub over_small : over < m
  pub more : from < to
  pub fewest : from + each ≤ to
  pub most : to ≤ from + each + 1
  pub small : to ≤ max_side
  pub whole : lanes * to ≤ length s
  pub carry_room : lanes ≤ length carries
  pub room : at + lanes ≤ length half
  pub bytes : Bytes s
