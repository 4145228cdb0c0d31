-- What the private functions ask and ensure: relations between what goes in and what comes out. Two pixels share span parts, and a column goes on by step
-- of them. Assumes nothing.
use Rattle.std.specs.Prelude.{ℕ, ◌+◌, ◌-◌, ◌%◌, ◌≤◌, ◌<◌, ◌≡◌, List}
use Rattle.pixels.specs.Sizes.{max_side}
use Rattle.pixels_layout.specs.declared.Places.{Places}
use Rattle.rows.specs.declared.Quad.{Quad}
use Rattle.rows.specs.Inner.Import.{at, Four, lane_bytes, RowAsks}
use Rattle.rows.specs.Inner.Differences.{LaneStands}

-- places one by one
abbrev pub placed : ℕ → ℕ → ℕ → ℕ → Places
placed b g r a = record { b = b; g = g; r = r; a = a }

-- a byte, and parts of a width
pub record ShareAsks (byte parts : ℕ) : Type 0 where
  pub byte_small : byte ≤ 255
  pub parts_small : parts < max_side

pub record BetweenAsks (left : Quad) (acc rest : ℕ) : Type 0 where
  pub bytes : Four (λ k. at left k ≤ 255)
  pub acc_small : acc < max_side
  pub rest_small : rest < max_side

-- a row begun: `right` is the second pixel (of one pixel, itself), value and fall are the first column's
pub record GrowAsks (s half : List ℕ) (p : Places) (n m : ℕ) (right fall value : Quad) : Type 0 where
  pub row : RowAsks s half n m p
  pub grows : n < m
  pub right_is : Four (λ k. at right k ≡ lane_bytes p s k (0 + 1 % n))
  pub lanes : Four (λ k. LaneStands (lane_bytes p s k 0) (lane_bytes p s k (0 + 1 % n)) (m - 1) (m - 1) (n - 1) (at value k) (at fall k))
