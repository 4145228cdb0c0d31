-- Where a list of a group's calls has led: the group meets the rules, its record is what was counted, and its tests are those of what was counted. Assumes nothing.
use Prim.Native.Nat.{ℕ, ◌-◌, ◌≤◌, ◌<◌}
use mathlib.Core.Path.{◌≡◌, sym, ◌∙◌, ap, ap₂, subst}
use mathlib.Core.List.{List}
use mathlib.Core.Bool.{false}
use native.Mathlib.Omega.{arith}
use lib.ListN.{length, drop}
use Rattle.job_rules.specs.declared.Plan.{Plan}
use Rattle.job_rules.specs.Rules.{Formed}
use Rattle.job.specs.declared.Job.{Job}
use Rattle.job.specs.Record.{Rules}
use Rattle.job_claim.specs.Calls.{Seen, Run, run, begun}
use Rattle.job_claim.specs.Claim.{Claim}
use Rattle.job_claim.proofs.Invariant as invariant
use Rattle.job_claim.proofs.Invariant.{run_kept, begun_kept}
use Rattle.job_claim.proofs.Theorem.{demand_3}
use Rattle.group_rules.specs.Group.{group_limit, spare, job_at, plan_at, total, differing, group_of}
use Rattle.group_rules.specs.Tests.{group_start_number}
use Rattle.group_rules.proofs.Alike.{jobs_there}
use Rattle.group_claim.specs.Calls.{GroupCall, GroupRun, group_run, group_begun, alone, calls_of}
use Rattle.group_claim.specs.Claim.{plan_in, part_in, AllGo, AsAlone}
use Rattle.group_claim.proofs.Projecting.{Projected, projects, Kept, keeps, total_kept}
use Rattle.group_claim.proofs.Starting.{Starts, starts, began_count, began_plan, began_beyond, began_long, began_work_long, began_rest, start_accepted, began_alone}

-- the record of what was counted of a job
abbrev pub counted : Plan → Seen → Job
counted p s = invariant.job_at p s

-- ---- each job is everything that it would be alone
module _ (plans : List Plan) (count : ℕ) (work : List ℕ) (e : group_start_number plans count (length work) ≡ 0) (calls : List GroupCall) (i : ℕ) (l : i < count) where
  abbrev p : Plan
  p = plan_in plans count i

  abbrev part : List ℕ
  part = part_in plans count work i

  abbrev first : GroupRun
  first = group_begun plans count work

  projected : Projected first (group_run first calls) calls i
  projected = projects first (began_long plans count work e) calls i (omega (arith, began_count plans count work e))

  same : alone i (group_run first calls) ≡ run p (begun p part) (calls_of i first calls)
  same =
      projected.same
      ∙ ap₂ (λ (q : Plan) (x : Run). run q x (calls_of i first calls)) (began_plan plans count work e i) (began_alone plans count work e i l)

  all_go : AllGo p (begun p part) (calls_of i first calls)
  all_go =
      subst (λ (x : Run). AllGo p x (calls_of i first calls)) (began_alone plans count work e i l)
      (subst (λ (q : Plan). AllGo q (alone i first) (calls_of i first calls)) (began_plan plans count work e i) projected.all_go)

  formed_so : Formed p
  formed_so = (starts plans count (length work) e).formed_so i l

  pub as_alone : AsAlone plans count work calls i
  as_alone = record {
    same = same;
    all_go = all_go;
    claim = subst (λ (x : Run). Claim p part x) (sym same) (demand_3.every_list p part formed_so (start_accepted plans count work e i l) (calls_of i first calls));
  }

  pub job_kept : invariant.Kept p part (alone i (group_run first calls))
  job_kept =
      subst (λ (x : Run). invariant.Kept p part x) (sym same)
      (run_kept p part (calls_of i first calls) (begun p part) (begun_kept p part formed_so (start_accepted plans count work e i l)))

-- ---- the group
pub record Standing (plans : List Plan) (count : ℕ) (work : List ℕ) (r : GroupRun) : Type 0 where
  pub few : count ≤ group_limit
  pub some_job : 0 < count
  pub count_is : r.group.count ≡ count
  pub plan_is : (k : ℕ) → plan_at r.group.jobs k ≡ plan_in plans count k
  pub beyond_is : (k : ℕ) → count ≤ k → job_at r.group.jobs k ≡ spare
  pub same_source : differing (group_of plans count).jobs count ≡ false
  pub job_is : (i : ℕ) → i < count → job_at r.group.jobs i ≡ counted (plan_in plans count i) (r.seen i)
  pub rules : (i : ℕ) → i < count → Rules (counted (plan_in plans count i) (r.seen i))
  pub together : (k : ℕ) → (r.seen k).accepted ≡ (r.seen 0).accepted
  pub as_many : length r.work ≡ length work
  pub rest_stays : drop (total (group_of plans count).jobs count) r.work ≡ drop (total (group_of plans count).jobs count) work

pub standing : (plans : List Plan) (count : ℕ) (work : List ℕ) → group_start_number plans count (length work) ≡ 0 → (calls : List GroupCall)
    → Standing plans count work (group_run (group_begun plans count work) calls)
standing plans count work e calls =
    let first : GroupRun = group_begun plans count work in
    let end : GroupRun = group_run first calls in
    let o : Starts plans count (length work) = starts plans count (length work) e in
    let k : Kept first end = keeps first (began_long plans count work e) calls in
    let all : total first.group.jobs first.group.count ≡ total (group_of plans count).jobs count =
    ap (λ (n : ℕ). total first.group.jobs n) (began_count plans count work e)
    ∙ total_kept first.group.jobs (group_of plans count).jobs (began_plan plans count work e) count in
    record {
      few = o.few;
      some_job = omega (arith, jobs_there (group_of plans count).jobs count o.same_source);
      count_is = k.count_kept ∙ began_count plans count work e;
      plan_is = λ i. k.plans_kept i ∙ began_plan plans count work e i;
      beyond_is = λ i l. k.beyond_kept i (omega (arith, began_count plans count work e)) ∙ began_beyond plans count work e i l;
      same_source = o.same_source;
      job_is = λ i l.
          let j = job_kept plans count work e calls i l in
          ap (λ (x : Run). x.job) j.is ∙ ap (λ (s : Seen). counted (plan_in plans count i) s) (sym (ap (λ (x : Run). x.seen) j.is));
      rules = λ i l.
          let j = job_kept plans count work e calls i l in
          subst (λ (s : Seen). Rules (counted (plan_in plans count i) s)) (sym (ap (λ (x : Run). x.seen) j.is)) j.inv.rules;
      together = λ i. k.together i ∙ sym (k.together 0);
      as_many = k.work_kept ∙ began_work_long plans count work e;
      rest_stays = (rw all at k.rest_kept) ∙ began_rest plans count work e;
    }
