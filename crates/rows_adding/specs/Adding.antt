-- What `add_halves` promises (SCOPE, "A row comes in"; "Why a call is turned away"): its number, and the work rows afterwards. Assumes nothing.
use Rattle.std.specs.Prelude.{ℕ, ◌+◌, List, [], ◌∷◌, length}
use Rattle.pixels.specs.Refusals.{first, few_work, buffer_if}
use Rattle.rows.specs.WorkRows.{added}

-- halves of w values, in `room` work values: 5 where they are too few, else 0
unfoldable pub add_number : ℕ → ℕ → ℕ
add_number w room = first (few_work room (w + w) ∷ [])

-- the work rows after the call: as they were where it is turned away
unfoldable pub add_work : ℕ → List ℕ → List ℕ
add_work w work = buffer_if (add_number w (length work)) (added w work) work
