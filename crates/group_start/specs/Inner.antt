-- What the private functions of a group's start answer: numbers 1, 10 and 2 of job i. Assumes nothing.
use Rattle.std.specs.Prelude.{ℕ, Bool, List}
use Rattle.pixels.specs.Sizes.{bad_sizes, bad_lanes, crop_beyond}
use Rattle.job_rules.specs.Rules.{lanes_of}
use Rattle.job.specs.declared.Job.{Job}
use Rattle.group_rules.specs.Group.{plan_at}

abbrev pub wrong_at : List Job → ℕ → Bool
wrong_at js i = bad_sizes (plan_at js i).source (plan_at js i).crop (plan_at js i).target

abbrev pub lanes_at : List Job → ℕ → Bool
lanes_at js i = bad_lanes (lanes_of (plan_at js i))

abbrev pub beyond_at : List Job → ℕ → Bool
beyond_at js i = crop_beyond (plan_at js i).crop (plan_at js i).source
