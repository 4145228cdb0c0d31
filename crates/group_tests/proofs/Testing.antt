-- The tests of a group's offer and take as the code makes them. Assumes nothing.
use Prim.Native.Nat.{ℕ, ◌≤◌, ◌<◌}
use mathlib.Core.Path.{◌≡◌, sym, ap, ◌∙◌}
use mathlib.Core.Bool.{Bool, true, false, not}
use mathlib.Core.List.{List}
use native.Mathlib.Nat.{mul-le-mul}
use native.Mathlib.Omega.{arith}
use borrow.Author.Tests.{le-ltb, lt-ltb}
use lib.Dec.{ltb}
use Rattle.pixels.specs.Sizes.{row_bytes}
use Rattle.pixels.proofs.Truths.{not_false}
use Rattle.job_rules.specs.Rules.{lanes_of}
use Rattle.job.specs.declared.Job.{Job}
use Rattle.job.specs.Record.{Rules}
use Rattle.group_rules.specs.declared.Group.{Group}
use Rattle.group_rules.specs.Group.{job_at, total, group_lawful, looked}
use Rattle.group_rules.specs.Tests.{ready_at, some_ready}
use Rattle.group_rules.proofs.Lawful.{lawful_group, looked_few, lanes_here}

-- job i has a row ready once k rows are accepted
abbrev pub ready : List Job → ℕ → ℕ → Bool
ready js k i = ready_at (job_at js i) k

-- a source row of a job has bytes
pub row_some : (j : Job) → Rules j → 1 ≤ row_bytes (lanes_of j.plan) j.plan.source.width
row_some j r = omega (arith, mul-le-mul (lanes_here j r).some r.sizes.source_width.some)

-- ---- the record; b is what `check_group` answered
module _ (g : Group) (b : Bool) (is : b ≡ group_lawful g) where
  pub unlawful : not b ≡ true → not (group_lawful g) ≡ true
  unlawful e = ap not (sym is) ∙ e

  pub lawful_test : not b ≡ false → not (group_lawful g) ≡ false
  lawful_test e = ap not (sym is) ∙ e

  pub lawful_is : not b ≡ false → group_lawful g ≡ true
  lawful_is e = sym is ∙ not_false b e

-- ---- the work values; s is what all jobs need
module _ (g : Group) (w s : ℕ) (is : s ≡ total g.jobs g.count) where
  pub room_short : w < s → ltb w (total g.jobs g.count) ≡ true
  room_short l = lt-ltb w (total g.jobs g.count) (rw is at l)

  pub room_enough : s ≤ w → ltb w (total g.jobs g.count) ≡ false
  room_enough l = le-ltb w (total g.jobs g.count) (rw is at l)

-- the jobs looked at are all of a group that meets the rules
pub ready_here : (g : Group) → group_lawful g ≡ true → (k : ℕ) → some_ready g.jobs (looked g.count) k ≡ some_ready g.jobs g.count k
ready_here g e k = ap (λ (n : ℕ). some_ready g.jobs n k) (looked_few g.count (lawful_group g e).few)
