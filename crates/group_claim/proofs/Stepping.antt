-- What one group call comes to, for the group and for each of its jobs; and a call that is turned away. Assumes nothing.
use Prim.Native.Nat.{ℕ, ◌+◌, ◌≤◌, ◌<◌}
use mathlib.Core.Path.{◌≡◌, refl, sym, ◌∙◌, ap, ap₂}
use mathlib.Core.List.{List, [], ◌++◌}
use mathlib.Core.Bool.{Bool, true, false, cond}
use native.Mathlib.Omega.{arith}
use lib.Dec.{eqb}
use lib.ListN.{length, take, drop, take-append-drop}
use Rattle.job_claim.specs.Calls.{Call, Seen, run}
use Rattle.group_parts.specs.Parts.{part_at}
use Rattle.group_rules.specs.declared.Group.{Group}
use Rattle.group_rules.specs.Group.{job_at, plan_at, needs, total}
use Rattle.group.specs.Calls.{group_offer_rows, group_offered, group_offer_work, group_taken, group_take_out, group_take_work}
use Rattle.group_claim.specs.Calls.{GroupCall, OfferAll, TakeOf, GroupRun, group_step, alone, called, offer_number, offer_rows, take_number, take_out}
use Rattle.group_claim.specs.Claim.{AllGo, Same}
use Rattle.group_claim.proofs.Alone.{same_run, seen_none, run_none}

pub record Stepped (r next : GroupRun) (call : GroupCall) : Type 0 where
  pub count_kept : next.group.count ≡ r.group.count
  pub jobs_kept : length next.group.jobs ≡ length r.group.jobs
  pub plans_kept : (k : ℕ) → plan_at next.group.jobs k ≡ plan_at r.group.jobs k
  pub work_kept : length next.work ≡ length r.work
  pub rest_kept : drop (total r.group.jobs r.group.count) next.work ≡ drop (total r.group.jobs r.group.count) r.work
  -- the rows that all jobs accepted
  pub rows_in : ℕ
  pub together : (k : ℕ) → (next.seen k).accepted ≡ (r.seen k).accepted + rows_in
  pub beyond_kept : (k : ℕ) → r.group.count ≤ k → job_at next.group.jobs k ≡ job_at r.group.jobs k
  -- of a job: its own calls, all of which go through
  pub alone_is : (i : ℕ) → i < r.group.count → alone i next ≡ run (plan_at r.group.jobs i) (alone i r) (called i r call)
  pub all_go : (i : ℕ) → i < r.group.count → AllGo (plan_at r.group.jobs i) (alone i r) (called i r call)

-- ---- turned away

-- nothing moved, and the job has no call
pub stays : (r next : GroupRun) (call : GroupCall) → Same next r → ((i : ℕ) → called i r call ≡ []) → Stepped r next call
stays r next call s none = record {
  count_kept = ap (λ (g : Group). g.count) s.group;
  jobs_kept = ap (λ (g : Group). length g.jobs) s.group;
  plans_kept = λ k. ap (λ (g : Group). plan_at g.jobs k) s.group;
  work_kept = ap length s.work;
  rest_kept = ap (λ (w : List ℕ). drop (total r.group.jobs r.group.count) w) s.work;
  rows_in = 0;
  together = λ k. ap (λ (t : Seen). t.accepted) (s.seen k) ∙ omega arith;
  beyond_kept = λ k l. ap (λ (g : Group). job_at g.jobs k) s.group;
  alone_is = λ i l.
      same_run _ _ (ap (λ (g : Group). job_at g.jobs i) s.group) (ap₂ (λ (g : Group) (w : List ℕ). part_at (needs g.jobs) i w) s.group s.work) (s.seen i)
      ∙ sym (ap (λ (x : List Call). run (plan_at r.group.jobs i) (alone i r) x) (none i) ∙ run_none (plan_at r.group.jobs i) (alone i r));
  all_go = λ i l. rw (none i) tt;
}

module _ (r : GroupRun) (rows : List ℕ) (lent : ℕ) (e : eqb (offer_number r rows lent) 0 ≡ false) where
  group_same : group_offered r.group (length rows) (length (take lent r.work)) ≡ r.group
  unfolding group_offered
  group_same = simp e

  work_same : group_offer_work r.group rows (take lent r.work) ≡ take lent r.work
  unfolding group_offer_work
  work_same = simp e

  rows_none : offer_rows r rows lent ≡ 0
  unfolding group_offer_rows
  rows_none = simp e

  pub offer_same : Same (group_step r (OfferAll rows lent)) r
  unfolding group_step
  offer_same = record {
    group = group_same;
    work = ap (λ (z : List ℕ). z ++ drop lent r.work) work_same ∙ take-append-drop lent r.work;
    seen = λ i. seen_none (plan_at r.group.jobs i) (r.seen i) rows (offer_rows r rows lent) rows_none;
  }

  called_none : (i : ℕ) → called i r (OfferAll rows lent) ≡ []
  unfolding called
  called_none i = simp e

  pub offer_dropped : Stepped r (group_step r (OfferAll rows lent)) (OfferAll rows lent)
  offer_dropped = stays r (group_step r (OfferAll rows lent)) (OfferAll rows lent) offer_same called_none

either_same : (b : Bool) (s : Seen) → cond b s s ≡ s
either_same true s = refl
either_same false s = refl

module _ (r : GroupRun) (k : ℕ) (out : List ℕ) (lent : ℕ) (e : eqb (take_number r k out lent) 0 ≡ false) where
  take_group_same : group_taken r.group k (length out) (take lent r.work) ≡ r.group
  unfolding group_taken
  take_group_same = simp e

  take_work_same : group_take_work r.group k (length out) (take lent r.work) ≡ take lent r.work
  unfolding group_take_work
  take_work_same = simp e

  pub take_out_same : take_out r k out lent ≡ out
  unfolding group_take_out
  take_out_same = simp e

  take_seen_same : (i : ℕ) → (group_step r (TakeOf k out lent)).seen i ≡ r.seen i
  unfolding group_step
  take_seen_same i = simp (e, either_same)

  pub take_same : Same (group_step r (TakeOf k out lent)) r
  unfolding group_step
  take_same = record {
    group = take_group_same;
    work = ap (λ (z : List ℕ). z ++ drop lent r.work) take_work_same ∙ take-append-drop lent r.work;
    seen = take_seen_same;
  }

  take_called_none : (i : ℕ) → called i r (TakeOf k out lent) ≡ []
  unfolding called
  take_called_none i = simp e

  pub take_dropped : Stepped r (group_step r (TakeOf k out lent)) (TakeOf k out lent)
  take_dropped = stays r (group_step r (TakeOf k out lent)) (TakeOf k out lent) take_same take_called_none
