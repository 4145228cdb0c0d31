-- What the private functions of a group ask. Assumes nothing.
use Rattle.std.specs.Prelude.{ℕ, ◌≤◌, ◌≡◌, true, List, length}
use Rattle.pixels.specs.Sizes.{row_bytes}
use Rattle.job_rules.specs.Rules.{lanes_of}
use Rattle.group_rules.specs.declared.Group.{Group}
use Rattle.group_rules.specs.Group.{plan_at, total, group_lawful}

-- a group that meets the rules, a source row as lent, and enough work values for all
pub record RowForAll (g : Group) (row work : List ℕ) : Type 0 where
  pub lawful : group_lawful g ≡ true
  pub long : length row ≡ row_bytes (lanes_of (plan_at g.jobs 0)) (plan_at g.jobs 0).source.width
  pub room : total g.jobs g.count ≤ length work
