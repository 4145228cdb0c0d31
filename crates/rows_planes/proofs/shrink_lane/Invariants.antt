-- `shrink_lane`: column after column of one lane; x pixels are used and reach `over` parts past the columns made. Assumes nothing.
use Rattle.std.proofs.Common.{◌≡◌, ℕ, ◌+◌, ◌*◌, ◌<◌, ◌≤◌, List}
use Rattle.arithmetic.proofs.Stores.{Stored}
use Rattle.rows.specs.Column as column
use Rattle.rows.specs.Lanes.{row_value}
use Rattle.rows_widening.specs.Inner.{byte_of}
use Rattle.rows_planes.proofs.shrink_lane.Given as goal

pub record Inv (s : List ℕ) (n m : ℕ) (half₀ half : List ℕ) (x over carry j : ℕ) : Type 0 where
  pub so_far : j ≤ m
  pub made : x * m ≡ j * n + over
  pub over_small : over < m
  pub x_small : x ≤ n
  pub carry_is : carry ≡ column.carry (byte_of 1 s 0) n m j
  pub stored : Stored (row_value 1 (byte_of 1 s) n m) half₀ half m j

abbrev pub invariant-loop-j : goal.invariant-loop-j
invariant-loop-j l = Inv l.row l.n l.m l.initial.half l.half l.x l.over l.carry l.j
