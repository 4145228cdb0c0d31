-- A row of values is made (SCOPE, "A row goes out"): the buffers afterwards, its number being `values_number`. u crop rows are used, y is SCOPE's Y.
-- Assumes nothing.
use Rattle.std.specs.Prelude.{ℕ, List, length}
use Rattle.arithmetic.specs.Table.{tabulate}
use Rattle.pixels.specs.Refusals.{buffer_if}
use Rattle.rows.specs.WorkRows.{Scale, byte_out, row_left}
use Rattle.rows_tests.specs.declared.RowScale.{RowScale}
use Rattle.rows_tests.specs.Tests.{values_number}

-- what the code's record says
abbrev pub scale_in : RowScale → Scale
scale_in s = record { span = s.span; h = s.h; g = s.g; w = s.w }

-- the output: the row's w lanes, not yet restored
unfoldable pub values_out : RowScale → ℕ → ℕ → List ℕ → List ℕ → List ℕ
values_out s u y out work =
    buffer_if (values_number s u y (length out) (length work)) (tabulate (byte_out (scale_in s) u y work) s.w) out

-- the work rows
unfoldable pub values_work : RowScale → ℕ → ℕ → ℕ → List ℕ → List ℕ
values_work s u y outBytes work = buffer_if (values_number s u y outBytes (length work)) (row_left (scale_in s) u y work) work
