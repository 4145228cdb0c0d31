-- What `widen_plane_row` promises (SCOPE, "Planes" and "A row comes in"): the half afterwards, its number being `import_number`. Assumes nothing.
use Rattle.std.specs.Prelude.{ℕ, cond, List, length, nat_lt}
use Rattle.pixels.specs.Refusals.{buffer_if}
use Rattle.pixels.specs.Sizes.{half_values}
use Rattle.rows_tests.specs.Tests.{import_number}
use Rattle.rows_form.specs.Form.{plain}
use Rattle.rows.specs.Lanes.{row_value}
use Rattle.rows.specs.WorkRows.{written}

-- the values of the row's lanes, over the beginning of the half
abbrev pub plane_written : ℕ → ℕ → ℕ → List ℕ → List ℕ → List ℕ
plane_written lanes n m row half = written (half_values lanes m) (row_value lanes (plain lanes row) n m) half

-- the half after the call: as it was where the row is turned away, and where the width does not grow
unfoldable pub widened_half : ℕ → ℕ → ℕ → List ℕ → List ℕ → List ℕ
widened_half lanes n m row half =
    buffer_if (import_number lanes n m (length row) (length half)) (cond (nat_lt n m) (plane_written lanes n m row half) half) half
