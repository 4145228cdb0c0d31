-- An output row of so many lanes is made (SCOPE, "A row goes out"): the buffers afterwards, its number being `scale_number`. Crop and target are sizes,
-- u crop rows are used, y is SCOPE's Y. Assumes nothing.
use Rattle.std.specs.Prelude.{ℕ, List, length}
use Rattle.arithmetic.specs.Table.{tabulate}
use Rattle.pixels.specs.declared.Dimensions.{Dimensions}
use Rattle.pixels.specs.Refusals.{buffer_if}
use Rattle.rows_tests.specs.Tests.{scale_number}
use Rattle.rows.specs.WorkRows.{scale_of, byte_out, row_left}

-- the output: the row's lanes, pixel after pixel, not yet restored
unfoldable pub scaled_out : ℕ → Dimensions → Dimensions → ℕ → ℕ → List ℕ → List ℕ → List ℕ
scaled_out lanes crop target u y out work =
    buffer_if (scale_number lanes crop target u y (length out) (length work))
    (tabulate (byte_out (scale_of lanes crop target) u y work) (scale_of lanes crop target).w)
    out

-- the work rows
unfoldable pub scaled_work : ℕ → Dimensions → Dimensions → ℕ → ℕ → ℕ → List ℕ → List ℕ
scaled_work lanes crop target u y outBytes work =
    buffer_if (scale_number lanes crop target u y outBytes (length work))
    (row_left (scale_of lanes crop target) u y work)
    work
