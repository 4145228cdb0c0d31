-- The half after a plane's row: where the number is 0 the row is written, by whichever function. Assumes nothing.
use Rattle.std.proofs.Common.{◌≡◌, ℕ, ◌<◌, List, length, lt-ltb, eq-eqb}
use Rattle.rows_tests.specs.Tests.{import_number}
use Rattle.rows_widening.specs.Widening.{plane_written, widened_half}
use Rattle.rows_planes.specs.Planes.{plane_half}

pub plane_written_lem : (lanes n m : ℕ) (row half : List ℕ) → import_number lanes n m (length row) (length half) ≡ 0 → plane_half lanes n m row half ≡ plane_written lanes n m row half
unfolding plane_half
plane_written_lem lanes n m row half e = simp (eq-eqb (import_number lanes n m (length row) (length half)) 0 e)

-- where the width grows
pub plane_widened : (lanes n m : ℕ) (row half : List ℕ) → n < m → widened_half lanes n m row half ≡ plane_half lanes n m row half
unfolding plane_half widened_half
plane_widened lanes n m row half grows = simp (lt-ltb n m grows)
