-- What a group's start hands back and leaves in the work values (SCOPE, "Groups"); its number is `group_start_number`. Assumes nothing.
use Rattle.std.specs.Prelude.{ℕ, cond, List, ◌++◌, eqb, length, drop, replicate}
use Rattle.pixels.specs.Refusals.{buffer_if}
use Rattle.job_rules.specs.declared.Plan.{Plan}
use Rattle.group_rules.specs.declared.Group.{Group}
use Rattle.group_rules.specs.Group.{total, group_of}
use Rattle.group_rules.specs.Tests.{group_start_number}

-- fresh jobs; a start that is turned away hands back a group of none, whose record is 6
unfoldable pub group_started : List Plan → ℕ → ℕ → Group
group_started plans count w = cond (eqb (group_start_number plans count w) 0) (group_of plans count) (group_of plans 0)

-- the parts of all jobs cleared, as each job's start clears its own; the rest as it was
unfoldable pub group_start_work : List Plan → ℕ → List ℕ → List ℕ
group_start_work plans count work =
    let n : ℕ = total (group_of plans count).jobs (group_of plans count).count in
    buffer_if (group_start_number plans count (length work)) (replicate n 0 ++ drop n work) work
