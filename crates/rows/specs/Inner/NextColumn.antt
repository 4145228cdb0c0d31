-- Where the next column stands, as loops over the columns of a row step to it: what they ask and ensure. Assumes nothing.
use Rattle.std.specs.Prelude.{◌≡◌, ℕ, ◌+◌, ◌-◌, ◌*◌, ◌/◌, ◌%◌, ◌^◌, ◌<◌, ◌≤◌, ltb, cond}
use Rattle.pixels.specs.Sizes.{max_side}

-- `to` pixels are used, and `over` parts of the last of them are left over; n is each × m + rest
pub record NextAsks (n m each rest to over : ℕ) : Type 0 where
  pub parts : each * m + rest ≡ n
  pub rest_small : rest < m
  pub over_small : over < m
  pub shrinks : m ≤ n
  pub n_small : n ≤ max_side
  pub to_small : to ≤ n

-- the same, whatever the columns' own numbers are: a column that stands so in a row of n pixels for m columns has a next one
pub record StandsIn (n m to over : ℕ) : Type 0 where
  pub over_small : over < m
  pub shrinks : m ≤ n
  pub n_small : n ≤ max_side
  pub to_small : to ≤ n

pub record NextIs (n m to over from to' over' : ℕ) : Type 0 where
  pub goes_on : from ≡ to
  pub made : to' * m + over ≡ to * m + n + over'
  pub over_small : over' < m
  pub more : from < to'

-- For all numbers, in words of 64 bits, which wrap; n / 0 is 0, and n % 0 is n. Where the next column ends: n / m pixels on, and one more where the parts
-- left over do not reach
unfoldable pub next_to : ℕ → ℕ → ℕ → ℕ → ℕ
next_to n m to over = (to + n / m + cond (ltb over (n % m)) 1 0) % 2 ^ 64

-- and the parts then left over
unfoldable pub next_over : ℕ → ℕ → ℕ → ℕ
next_over n m over = (over + cond (ltb over (n % m)) m 0 + 2 ^ 64 - n % m) % 2 ^ 64
