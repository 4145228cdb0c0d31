-- `grow`: the first two pixels' column, then by the layout. Assumes nothing.
use Rattle.rows_growing.proofs.GrownRows.{first_between, grow_asks, grow_told}
use Rattle.rows_growing.proofs.grow.Goals as goal

pub between-value-requires : goal.between-value-requires
between-value-requires c = first_between c.requires.row_asks (rw c.places-p.ensures at c.read-left.ensures)

pub grow_by-requires : goal.grow_by-requires
grow_by-requires c =
    grow_told c.in-Rgba8.is
    (grow_asks c.requires.row_asks c.requires.grows (rw c.places-p.ensures at c.read-left.ensures) (rw c.places-p.ensures at c.read-right.ensures) c.fall_of-fall.ensures c.between-value.ensures)

pub grow_by-requires-in-Argb8 : goal.grow_by-requires-in-Argb8
grow_by-requires-in-Argb8 c =
    grow_told c.in-Argb8.is
    (grow_asks c.requires.row_asks c.requires.grows (rw c.places-p.ensures at c.read-left.ensures) (rw c.places-p.ensures at c.read-right.ensures) c.fall_of-fall.ensures c.between-value.ensures)

pub grow_by-requires-in-Bgra8 : goal.grow_by-requires-in-Bgra8
grow_by-requires-in-Bgra8 c =
    grow_told c.in-Bgra8.is
    (grow_asks c.requires.row_asks c.requires.grows (rw c.places-p.ensures at c.read-left.ensures) (rw c.places-p.ensures at c.read-right.ensures) c.fall_of-fall.ensures c.between-value.ensures)
