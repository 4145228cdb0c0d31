-- `shrink_lanes`: column after column; `to` pixels are used and reach `over` parts past the columns made. Assumes nothing.
use Rattle.std.proofs.Common.{◌≡◌, ℕ, ◌+◌, ◌*◌, ◌<◌, ◌≤◌, List, length, get_or}
use Rattle.arithmetic.proofs.Stores.{Stored}
use Rattle.rows.specs.Column as column
use Rattle.rows.specs.Lanes.{row_value}
use Rattle.rows_widening.specs.Inner.{byte_of}
use Rattle.rows_planes.proofs.shrink_lanes.Given as goal

pub record Inv (s : List ℕ) (lanes n m : ℕ) (half₀ half carry : List ℕ) (to over j : ℕ) : Type 0 where
  pub so_far : j ≤ m
  pub made : to * m ≡ j * n + over
  pub over_small : over < m
  pub to_small : to ≤ n
  pub carries : (k : ℕ) → k < lanes → get_or carry k 0 ≡ column.carry (byte_of lanes s k) n m j
  pub carry_room : lanes ≤ length carry
  pub stored : Stored (row_value lanes (byte_of lanes s) n m) half₀ half (lanes * m) (lanes * j)

abbrev pub invariant-loop-j : goal.invariant-loop-j
invariant-loop-j g l = Inv l.row g.row.LANES l.n l.m l.initial.half l.half l.carry l.c.to l.c.over l.j
