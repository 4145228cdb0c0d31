-- What the private functions of a group's rules answer. Assumes nothing.
use Rattle.std.specs.Prelude.{ℕ, Bool, ◌&&◌, List, eqb}
use Rattle.job.specs.declared.Job.{Job}
use Rattle.job.specs.Record.{lawful}
use Rattle.group_rules.specs.Group.{job_at}

-- job i meets its own rules and has accepted as many rows as the first
abbrev pub in_step : List Job → ℕ → Bool
in_step js i = lawful (job_at js i) && eqb (job_at js i).accepted (job_at js 0).accepted
