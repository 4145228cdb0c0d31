-- The work values after a start (SCOPE, "The job" and "A row comes in"), whose number is `start_number`. Assumes nothing.
use Rattle.std.specs.Prelude.{ℕ, cond, List, ◌++◌, eqb, length, drop, replicate}
use Rattle.pixels.specs.Sizes.{work_values}
use Rattle.job_rules.specs.declared.Plan.{Plan}
use Rattle.job_rules.specs.Rules.{lanes_of, start_number}

-- "start clears both, and the rest is untouched"
abbrev pub cleared : Plan → List ℕ → List ℕ
cleared p work = replicate (work_values (lanes_of p) p.target.width) 0 ++ drop (work_values (lanes_of p) p.target.width) work

unfoldable pub start_work : Plan → List ℕ → List ℕ
start_work p work = cond (eqb (start_number p (length work)) 0) (cleared p work) work
