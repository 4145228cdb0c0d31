-- THE PROJECTION: each job of a group, over every list of the group's calls, is the job alone over its own; and what every list keeps of the group. Assumes nothing.
use Prim.Native.Nat.{ℕ, ◌+◌, ◌≤◌, ◌<◌}
use mathlib.Core.Path.{◌≡◌, refl, sym, ◌∙◌, ap, ap₂, subst}
use mathlib.Core.List.{List, [], ◌∷◌, ◌++◌}
use mathlib.Core.Bool.{true, false}
use mathlib.Core.Logic.{◌⊎◌, inl, inr}
use native.Mathlib.Omega.{arith}
use lib.Dec.{eqb}
use lib.ListN.{length, drop}
use borrow.Author.Tests.{eqb-true}
use Rattle.pixels.specs.Sizes.{work_values}
use Rattle.pixels.proofs.Truths.{test}
use Rattle.job_rules.specs.declared.Plan.{Plan}
use Rattle.job_rules.specs.Rules.{lanes_of}
use Rattle.job.specs.declared.Job.{Job}
use Rattle.job_claim.specs.Calls.{Call, Run, run}
use Rattle.group_parts.proofs.Cutting.{offset_cong}
use Rattle.group_rules.specs.Group.{job_at, plan_at, needs, total}
use Rattle.group_claim.specs.Calls.{GroupCall, OfferAll, TakeOf, GroupRun, group_step, group_run, alone, called, calls_of, offer_number, take_number}
use Rattle.group_claim.specs.Claim.{AllGo}
use Rattle.group_claim.proofs.Alone.{run_none, run_append, all_go_append}
use Rattle.group_claim.proofs.Stepping.{Stepped, offer_dropped, take_dropped}
use Rattle.group_claim.proofs.OfferSteps.{offer_accepted}
use Rattle.group_claim.proofs.TakeSteps.{take_handed}

-- every call is turned away or goes through
pub stepped : (r : GroupRun) → r.group.count ≤ length r.group.jobs → (call : GroupCall) → Stepped r (group_step r call) call
stepped r long (OfferAll rows lent) = by (test (eqb (offer_number r rows lent) 0))
  where
    by : (eqb (offer_number r rows lent) 0 ≡ true) ⊎ (eqb (offer_number r rows lent) 0 ≡ false) → Stepped r (group_step r (OfferAll rows lent)) (OfferAll rows lent)
    by (inl e) = offer_accepted r long rows lent (eqb-true _ 0 e)
    by (inr e) = offer_dropped r rows lent e
stepped r long (TakeOf k out lent) = by (test (eqb (take_number r k out lent) 0))
  where
    by : (eqb (take_number r k out lent) 0 ≡ true) ⊎ (eqb (take_number r k out lent) 0 ≡ false) → Stepped r (group_step r (TakeOf k out lent)) (TakeOf k out lent)
    by (inl e) = take_handed r long k out lent (eqb-true _ 0 e)
    by (inr e) = take_dropped r k out lent e

group_none : (r : GroupRun) → group_run r [] ≡ r
unfolding group_run
group_none r = refl

group_next : (r : GroupRun) (call : GroupCall) (calls : List GroupCall) → group_run r (call ∷ calls) ≡ group_run (group_step r call) calls
unfolding group_run
group_next r call calls = refl

calls_none : (i : ℕ) (r : GroupRun) → calls_of i r [] ≡ []
unfolding calls_of
calls_none i r = refl

calls_next : (i : ℕ) (r : GroupRun) (call : GroupCall) (calls : List GroupCall) → calls_of i r (call ∷ calls) ≡ called i r call ++ calls_of i (group_step r call) calls
unfolding calls_of
calls_next i r call calls = refl

-- ---- of each job
pub record Projected (r end : GroupRun) (calls : List GroupCall) (i : ℕ) : Type 0 where
  pub same : alone i end ≡ run (plan_at r.group.jobs i) (alone i r) (calls_of i r calls)
  pub all_go : AllGo (plan_at r.group.jobs i) (alone i r) (calls_of i r calls)

pub projects : (r : GroupRun) → r.group.count ≤ length r.group.jobs → (calls : List GroupCall) (i : ℕ) → i < r.group.count
    → Projected r (group_run r calls) calls i
projects r long [] i l = record {
  same =
      ap (λ (x : GroupRun). alone i x) (group_none r)
      ∙ sym (ap (λ (x : List Call). run (plan_at r.group.jobs i) (alone i r) x) (calls_none i r) ∙ run_none (plan_at r.group.jobs i) (alone i r));
  all_go = rw (calls_none i r) tt;
}
projects r long (call ∷ calls) i l =
    let p : Plan = plan_at r.group.jobs i in
    let next : GroupRun = group_step r call in
    let rest : List Call = calls_of i next calls in
    let s : Stepped r next call = stepped r long call in
    let on : Projected next (group_run next calls) calls i = projects next (omega (arith, s.count_kept, s.jobs_kept)) calls i (omega (arith, s.count_kept)) in
    record {
      same =
          ap (λ (x : GroupRun). alone i x) (group_next r call calls)
          ∙ on.same
          ∙ ap₂ (λ (q : Plan) (x : Run). run q x rest) (s.plans_kept i) (s.alone_is i l)
          ∙ sym (ap (λ (x : List Call). run p (alone i r) x) (calls_next i r call calls) ∙ run_append p (alone i r) (called i r call) rest);
      all_go =
          subst (λ (x : List Call). AllGo p (alone i r) x) (sym (calls_next i r call calls))
          (all_go_append p (alone i r) (called i r call) rest (s.all_go i l)
          (subst (λ (x : Run). AllGo p x rest) (s.alone_is i l)
          (subst (λ (q : Plan). AllGo q (alone i next) rest) (s.plans_kept i) on.all_go)));
    }

-- ---- of the group
pub record Kept (r end : GroupRun) : Type 0 where
  pub count_kept : end.group.count ≡ r.group.count
  pub plans_kept : (k : ℕ) → plan_at end.group.jobs k ≡ plan_at r.group.jobs k
  pub work_kept : length end.work ≡ length r.work
  pub rest_kept : drop (total r.group.jobs r.group.count) end.work ≡ drop (total r.group.jobs r.group.count) r.work
  pub beyond_kept : (k : ℕ) → r.group.count ≤ k → job_at end.group.jobs k ≡ job_at r.group.jobs k
  -- the rows that all jobs accepted
  pub rows_in : ℕ
  pub together : (k : ℕ) → (end.seen k).accepted ≡ (r.seen k).accepted + rows_in

-- the parts of jobs with the same plans end in the same place
pub total_kept : (js ks : List Job) → ((k : ℕ) → plan_at js k ≡ plan_at ks k) → (n : ℕ) → total js n ≡ total ks n
total_kept js ks h n = offset_cong (needs js) (needs ks) (λ k. ap (λ (p : Plan). work_values (lanes_of p) p.target.width) (h k)) n

pub keeps : (r : GroupRun) → r.group.count ≤ length r.group.jobs → (calls : List GroupCall) → Kept r (group_run r calls)
keeps r long [] = rw (group_none r) (record {
  count_kept = refl;
  plans_kept = λ k. refl;
  work_kept = refl;
  rest_kept = refl;
  beyond_kept = λ k l. refl;
  rows_in = 0;
  together = λ k. omega arith;
})
keeps r long (call ∷ calls) =
    let next : GroupRun = group_step r call in
    let s : Stepped r next call = stepped r long call in
    let on : Kept next (group_run next calls) = keeps next (omega (arith, s.count_kept, s.jobs_kept)) calls in
    let all : ℕ = total r.group.jobs r.group.count in
    let ends : total next.group.jobs next.group.count ≡ all =
    ap (λ (n : ℕ). total next.group.jobs n) s.count_kept ∙ total_kept next.group.jobs r.group.jobs s.plans_kept r.group.count in
    rw (group_next r call calls) (record {
      count_kept = on.count_kept ∙ s.count_kept;
      plans_kept = λ k. on.plans_kept k ∙ s.plans_kept k;
      work_kept = on.work_kept ∙ s.work_kept;
      rest_kept = (rw ends at on.rest_kept) ∙ s.rest_kept;
      beyond_kept = λ k l. on.beyond_kept k (omega (arith, s.count_kept)) ∙ s.beyond_kept k l;
      rows_in = s.rows_in + on.rows_in;
      together = λ k. on.together k ∙ (let q = s.together k in omega (arith, q));
    })
