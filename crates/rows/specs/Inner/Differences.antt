-- A column of a growing row by its difference to the one before it. Assumes nothing.
use Rattle.std.specs.Prelude.{◌≡◌, ℕ, ◌+◌, ◌*◌, ◌%◌, ◌^◌, ◌<◌}

-- one lane of a column between two pixels, l and r: acc of span parts are the left one's, the rest the right one's. The next column in the pair is less by
-- the fall, which is l × step - r × step modulo 2^32
pub record LaneStands (l r acc span step value fall : ℕ) : Type 0 where
  pub value_is : value + r * acc ≡ l * acc + r * span
  pub fall_is : (fall + r * step) % 2 ^ 32 ≡ l * step
  pub fall_word : fall < 2 ^ 32
