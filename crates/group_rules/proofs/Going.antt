-- What number 0 of a group's offer and take says. Assumes nothing.
use Prim.Native.Nat.{ℕ, ◌≤◌, ◌<◌}
use mathlib.Core.Path.{◌≡◌}
use mathlib.Core.Bool.{false}
use borrow.Author.Tests.{ltb-false, leb-false}
use Rattle.pixels.specs.Sizes.{row_bytes}
use Rattle.pixels.proofs.Truths.{not_false, same_of}
use Rattle.pixels.proofs.Causes.{none_applies}
use Rattle.job_rules.specs.Rules.{lanes_of, R}
use Rattle.job.proofs.Views.{WholeRows, whole_of}
use Rattle.group_rules.specs.declared.Group.{Group}
use Rattle.group_rules.specs.Group.{job_at, plan_at, total}
use Rattle.group_rules.specs.Tests.{some_ready, group_offer_causes, group_offer_number, group_take_causes, group_take_number}
use Rattle.group_rules.proofs.Lawful.{LawfulGroup, lawful_group}

pub record GroupOfferGoes (g : Group) (bytes w : ℕ) : Type 0 where
  pub group : LawfulGroup g
  pub whole : WholeRows (plan_at g.jobs 0) bytes
  pub room : total g.jobs g.count ≤ w
  pub none_ready : some_ready g.jobs g.count (job_at g.jobs 0).accepted ≡ false
  pub remain : (job_at g.jobs 0).accepted < (plan_at g.jobs 0).source.height

pub group_offer_goes : (g : Group) (bytes w : ℕ) → group_offer_number g bytes w ≡ 0 → GroupOfferGoes g bytes w
unfolding group_offer_number
group_offer_goes g bytes w e =
    let q = none_applies (group_offer_causes g bytes w) e in
    record {
      group = lawful_group g (not_false _ q.0);
      whole = whole_of (plan_at g.jobs 0) bytes q.1.0;
      room = ltb-false _ _ q.1.1.0;
      none_ready = q.1.1.1.0;
      remain = leb-false _ _ q.1.1.1.1.0;
    }

pub record GroupTakeGoes (g : Group) (i bytes w : ℕ) : Type 0 where
  pub group : LawfulGroup g
  pub named : i < g.count
  pub exact : bytes ≡ row_bytes (lanes_of (plan_at g.jobs i)) (plan_at g.jobs i).target.width
  pub room : total g.jobs g.count ≤ w
  pub ready : (job_at g.jobs i).taken < R (plan_at g.jobs i) (job_at g.jobs i).accepted

pub group_take_goes : (g : Group) (i bytes w : ℕ) → group_take_number g i bytes w ≡ 0 → GroupTakeGoes g i bytes w
unfolding group_take_number
group_take_goes g i bytes w e =
    let q = none_applies (group_take_causes g i bytes w) e in
    record {
      group = lawful_group g (not_false _ q.0);
      named = leb-false _ _ q.1.0;
      exact = same_of _ _ q.1.1.0;
      room = ltb-false _ _ q.1.1.1.0;
      ready = leb-false _ _ q.1.1.1.1.0;
    }
