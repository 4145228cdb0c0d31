-- What `add_halves` does with a call that is not turned away, for its callers. Assumes nothing.
use Rattle.std.proofs.Common.{◌≡◌, ℕ, ◌+◌, ◌<◌, ◌≤◌, List, [], ◌∷◌, length, le-ltb, lt-ltb, eq-eqb}
use Rattle.pixels.specs.Refusals.{few_work}
use Rattle.pixels.proofs.Causes.{first_at, first_none}
use Rattle.rows.specs.WorkRows.{added}
use Rattle.rows_adding.specs.Adding.{add_number, add_work}

module _ (w room : ℕ) where
  pub add_fits : w + w ≤ room → add_number w room ≡ 0
  unfolding add_number
  add_fits l = first_none (few_work room (w + w) ∷ []) (le-ltb room (w + w) l, tt)

  pub add_short : room < w + w → add_number w room ≡ 5
  unfolding add_number
  add_short l = first_at (few_work room (w + w) ∷ []) 0 tt (lt-ltb room (w + w) l)

-- where the number is 0, the halves are added
pub add_written : (w : ℕ) (work : List ℕ) → add_number w (length work) ≡ 0 → add_work w work ≡ added w work
unfolding add_work
add_written w work e = simp (eq-eqb (add_number w (length work)) 0 e)
