-- The rules of a group: the test as the code makes it, and what it says of the group and of each of its jobs. Assumes nothing.
use Prim.Native.Nat.{ℕ, ◌≤◌, ◌<◌}
use mathlib.Core.Path.{◌≡◌, sym, ap, ◌∙◌}
use mathlib.Core.Bool.{Bool, true, false, not}
use mathlib.Core.List.{List}
use native.Mathlib.Nat.{mul-le-mul}
use native.Mathlib.Omega.{arith}
use borrow.Author.Tests.{lt-ltb, le-ltb, eqb-true, ltb-false}
use Rattle.pixels.specs.Sizes.{LaneCount}
use Rattle.pixels.proofs.Truths.{both_true, not_true}
use Rattle.job_rules.specs.Rules.{lanes_of}
use Rattle.job_rules.proofs.Rules.{rules_of}
use Rattle.job_rules.proofs.KindRules.{lane_count}
use Rattle.job.specs.declared.Job.{Job}
use Rattle.job.specs.Record.{lawful, Rules}
use Rattle.group_rules.specs.declared.Group.{Group}
use Rattle.group_rules.specs.Group.{group_limit, job_at, plan_at, every, needs, too_many, differing, group_lawful, looked}
use Rattle.group_rules.specs.Inner.{in_step}
use Rattle.group_rules.proofs.Jobs.{every_one}
use Rattle.group_rules.proofs.Alike.{Alike, alike_all, jobs_there}

pub looked_few : (n : ℕ) → n ≤ group_limit → looked n ≡ n
looked_few n h = omega arith

pub looked_most : (n : ℕ) → looked n ≤ group_limit
looked_most n = omega arith

-- ---- the test as the code makes it; a and b are what its parts answered
module _ (g : Group) where
  pub too_many_lem : group_limit < g.count → false ≡ group_lawful g
  unfolding group_lawful
  too_many_lem h = simp (lt-ltb group_limit g.count h)

  module _ (few : g.count ≤ group_limit) (a : Bool) (is : a ≡ differing g.jobs (looked g.count)) where
    here : a ≡ differing g.jobs g.count
    here = is ∙ ap (differing g.jobs) (looked_few g.count few)

    pub jobs_unlike : a ≡ true → false ≡ group_lawful g
    unfolding group_lawful
    jobs_unlike e = simp (le-ltb group_limit g.count few, sym here ∙ e)

    pub steps_decide : a ≡ false → (b : Bool) → b ≡ every (in_step g.jobs) (looked g.count) → b ≡ group_lawful g
    unfolding group_lawful
    steps_decide e b h =
        let q : b ≡ every (in_step g.jobs) g.count = h ∙ ap (every (in_step g.jobs)) (looked_few g.count few) in
        q ∙ simp (le-ltb group_limit g.count few, sym here ∙ e)

-- ---- what it says: how many jobs there are, and what each has in common with the first
pub record Member (js : List Job) (i : ℕ) : Type 0 where
  pub rules : Rules (job_at js i)
  pub accepted : (job_at js i).accepted ≡ (job_at js 0).accepted
  pub alike : Alike (plan_at js 0) (plan_at js i)

pub record LawfulGroup (g : Group) : Type 0 where
  pub some : 1 ≤ g.count
  pub few : g.count ≤ group_limit
  pub member : (i : ℕ) → i < g.count → Member g.jobs i

pub lawful_group : (g : Group) → group_lawful g ≡ true → LawfulGroup g
unfolding group_lawful
lawful_group g e =
    let steps = both_true _ (every (in_step g.jobs) g.count) e in
    let sorts = both_true (not (too_many g.count)) (not (differing g.jobs g.count)) steps.0 in
    let same = not_true (differing g.jobs g.count) sorts.1 in
    record {
      some = omega (arith, jobs_there g.jobs g.count same);
      few = ltb-false group_limit g.count (not_true _ sorts.0);
      member = λ i l.
          let own = both_true (lawful (job_at g.jobs i)) _ (every_one (in_step g.jobs) g.count i steps.1 l) in
          record {
            rules = rules_of _ _ _ _ own.0;
            accepted = eqb-true _ _ own.1;
            alike = alike_all g.jobs g.count same i l;
          };
    }

-- ---- the work values of a job whose record meets the rules
pub lanes_here : (j : Job) → Rules j → LaneCount (lanes_of j.plan)
lanes_here j r = lane_count _ _ _ _ r.kind_fitting

pub need_most : (js : List Job) (i : ℕ) → Rules (job_at js i) → needs js i ≤ 131072
need_most js i r = omega (arith, mul-le-mul (lanes_here (job_at js i) r).most r.sizes.target_width.most)
