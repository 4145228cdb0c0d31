-- What `import_plane_row` promises (SCOPE, "Planes" and "A row comes in"): the half afterwards, its number being `import_number`. Assumes nothing.
use Rattle.std.specs.Prelude.{ℕ, List, length}
use Rattle.pixels.specs.Refusals.{buffer_if}
use Rattle.rows_tests.specs.Tests.{import_number}
use Rattle.rows_widening.specs.Widening.{plane_written}

-- the half after the call: as it was where the row is turned away
unfoldable pub plane_half : ℕ → ℕ → ℕ → List ℕ → List ℕ → List ℕ
plane_half lanes n m row half = buffer_if (import_number lanes n m (length row) (length half)) (plane_written lanes n m row half) half
