-- `put_column`: a lane a turn; the carries of the lanes passed are the next column's. Assumes nothing.
use Rattle.std.proofs.Common.{◌≡◌, ℕ, List}
use Rattle.arithmetic.proofs.Stores.{Stored}
use Rattle.rows_widening.specs.Inner.{set_all}
use Rattle.rows_planes.specs.Inner.{column_value, column_carry}
use Rattle.rows_planes.proofs.put_column.Given as goal

pub record Inv (s : List ℕ) (lanes m scale from to over : ℕ) (carry₀ half₀ : List ℕ) (at : ℕ) (carry half : List ℕ) (k : ℕ) : Type 0 where
  pub half_is : half ≡ set_all half₀ at (column_value lanes s m from to over carry₀) k
  pub carries : Stored (column_carry lanes s scale to over) carry₀ carry lanes k

abbrev pub invariant-loop-k : goal.invariant-loop-k
invariant-loop-k g l = Inv l.row g.row.LANES l.m l.scale l.c.from l.c.to l.c.over l.initial.carry l.initial.half l.at l.carry l.half l.k
