-- A group's start that is not turned away: each job is as its own start would have left it, with its own part of the work values. Assumes nothing.
use Prim.Native.Nat.{ℕ, zero, suc, ◌+◌, ◌-◌, ◌≤◌, ◌<◌}
use mathlib.Core.Path.{◌≡◌, refl, sym, ◌∙◌, ap, ap₂, subst}
use mathlib.Core.List.{List, ◌++◌, append-nil}
use mathlib.Core.Bool.{false}
use native.Mathlib.Omega.{arith}
use lib.ListN.{length, get_or, take, drop, set, replicate, length-replicate, length-append, length-drop, replicate-append-replicate, drop_of_length-le}
use lib.Seq.{take_at, drop_at, get_or-set_other}
use borrow.Author.Tests.{eq-eqb, ltb-false, le-ltb}
use Rattle.pixels.specs.Sizes.{bad_sizes, bad_lanes, crop_beyond}
use Rattle.pixels.proofs.Causes.{first_none, none_applies}
use Rattle.job_rules.specs.declared.Plan.{Plan}
use Rattle.job_rules.specs.Rules as rules
use Rattle.job_rules.specs.Rules.{lanes_of, Formed, start_number}
use Rattle.job.specs.declared.Job.{Job}
use Rattle.job.specs.Record.{fresh}
use Rattle.job_start.specs.Start.{start_work}
use Rattle.job_start.proofs.Starting.{start_went}
use Rattle.job_claim.specs.Calls.{nothing, begun}
use Rattle.group_parts.specs.Parts.{offset, part_at}
use Rattle.group_parts.proofs.Cutting.{offset_next, part_append, part_long}
use Rattle.group_rules.specs.declared.Group.{Group}
use Rattle.group_rules.specs.Group.{group_limit, spare, job_at, plan_at, given_at, needs, total, differing, formed, looked, fresh_jobs, group_of}
use Rattle.group_rules.specs.Tests.{start_causes, group_start_number}
use Rattle.group_rules.proofs.Jobs.{some_none}
use Rattle.group_rules.proofs.Forming.{fresh_none, fresh_long, fresh_at, formed_so}
use Rattle.group_start.specs.Start.{group_started, group_start_work}
use Rattle.group_claim.specs.Calls.{group_begun, alone}
use Rattle.group_claim.specs.Claim.{plan_in, part_in}

-- ---- the jobs that a start forms

-- the record of zeros wherever one looks
get_d_alike : (n k : ℕ) → get_or (replicate n spare) k spare ≡ spare
get_d_alike zero k = refl
get_d_alike (suc n) zero = refl
get_d_alike (suc n) (suc k) = get_d_alike n k

module _ (plans : List Plan) where
  fresh_next : (i : ℕ) → fresh_jobs plans (suc i) ≡ set (fresh_jobs plans i) i (fresh (formed (given_at plans i)))
  unfolding fresh_jobs
  fresh_next i = refl

  -- none stands beyond them
  pub fresh_beyond : (n k : ℕ) → n ≤ k → job_at (fresh_jobs plans n) k ≡ spare
  fresh_beyond zero k l = ap (λ (x : List Job). job_at x k) (fresh_none plans) ∙ get_d_alike group_limit k
  fresh_beyond (suc n) k l =
      ap (λ (x : List Job). job_at x k) (fresh_next n)
      ∙ get_or-set_other (fresh_jobs plans n) n k (fresh (formed (given_at plans n))) spare (omega arith)
      ∙ fresh_beyond n k (omega arith)

abbrev zeros : ℕ → List ℕ
zeros n = replicate n 0

-- a part of cleared values
cleared_part : (a k n : ℕ) → a + k ≤ n → take k (drop a (zeros n)) ≡ zeros k
cleared_part a k n l =
    let m : ℕ = n - (a + k) in
    let e : n ≡ a + (k + m) = omega arith in
    let cut : zeros n ≡ zeros a ++ (zeros k ++ zeros m) =
    ap zeros e
    ∙ sym (replicate-append-replicate a (k + m) 0)
    ∙ ap (λ (z : List ℕ). zeros a ++ z) (sym (replicate-append-replicate k m 0)) in
    ap (λ (z : List ℕ). take k (drop a z)) cut
    ∙ ap (λ (z : List ℕ). take k z) (drop_at (zeros a) (zeros k ++ zeros m) a (length-replicate a 0))
    ∙ take_at (zeros k) (zeros m) k (length-replicate k 0)

-- ---- what the number 0 says
pub record Starts (plans : List Plan) (count w : ℕ) : Type 0 where
  pub few : count ≤ group_limit
  pub room : total (group_of plans count).jobs count ≤ w
  pub same_source : differing (group_of plans count).jobs count ≡ false
  pub job_is : (i : ℕ) → i < count → job_at (group_of plans count).jobs i ≡ fresh (plan_in plans count i)
  pub formed_so : (i : ℕ) → i < count → Formed (plan_in plans count i)
  pub accepted : (i : ℕ) → i < count → start_number (plan_in plans count i) (needs (group_of plans count).jobs i) ≡ 0

pub starts : (plans : List Plan) (count w : ℕ) → group_start_number plans count w ≡ 0 → Starts plans count w
unfolding group_start_number start_number
starts plans count w e =
    let js : List Job = fresh_jobs plans (looked count) in
    let q = none_applies (start_causes js (looked count) count w) e in
    let few : count ≤ group_limit = ltb-false group_limit count q.1.1.1.1.0 in
    let all : looked count ≡ count = omega arith in
    let at : (i : ℕ) → i < count → job_at js i ≡ fresh (formed (given_at plans i)) = λ i l. fresh_at plans (looked count) i (omega arith) (omega arith) in
    record {
      few = few;
      room = subst (λ (n : ℕ). total js n ≤ w) all (ltb-false w (total js (looked count)) q.1.1.1.1.1.0);
      same_source = ap (λ (n : ℕ). differing js n) (sym all) ∙ q.1.1.1.0;
      job_is = λ i l. at i l ∙ ap fresh (sym (ap (λ (j : Job). j.plan) (at i l)));
      formed_so = λ i l. subst Formed (sym (ap (λ (j : Job). j.plan) (at i l))) (formed_so (given_at plans i));
      accepted = λ i l.
          let m : i < looked count = omega arith in
          let sizes = some_none (λ i. bad_sizes (plan_at js i).source (plan_at js i).crop (plan_at js i).target) (looked count) i q.0 m in
          let lanes = some_none (λ i. bad_lanes (lanes_of (plan_at js i))) (looked count) i q.1.0 m in
          let inside = some_none (λ i. crop_beyond (plan_at js i).crop (plan_at js i).source) (looked count) i q.1.1.0 m in
          first_none (rules.start_causes (plan_at js i) (needs js i)) (sizes, (lanes, (inside, (le-ltb (needs js i) (needs js i) (omega arith), tt))));
    }

-- ---- the group as its start left it
module _ (plans : List Plan) (count : ℕ) (work : List ℕ) (e : group_start_number plans count (length work) ≡ 0) where
  abbrev js : List Job
  js = (group_of plans count).jobs

  o : Starts plans count (length work)
  o = starts plans count (length work) e

  pub began_group : (group_begun plans count work).group ≡ group_of plans count
  unfolding group_started
  began_group = simp (eq-eqb _ 0 e)

  pub began_count : (group_begun plans count work).group.count ≡ count
  began_count = ap (λ (g : Group). g.count) began_group ∙ (let q = o.few in omega arith)

  pub began_plan : (i : ℕ) → plan_at (group_begun plans count work).group.jobs i ≡ plan_in plans count i
  began_plan i = ap (λ (g : Group). plan_at g.jobs i) began_group

  pub began_beyond : (k : ℕ) → count ≤ k → job_at (group_begun plans count work).group.jobs k ≡ spare
  began_beyond k l = ap (λ (g : Group). job_at g.jobs k) began_group ∙ fresh_beyond plans (looked count) k (omega arith)

  pub began_long : (group_begun plans count work).group.count ≤ length (group_begun plans count work).group.jobs
  began_long = omega (arith, ap (λ (g : Group). length g.jobs) began_group, fresh_long plans (looked count), began_count, o.few)

  work_then : group_start_work plans count work ≡ zeros (total js (looked count)) ++ drop (total js (looked count)) work
  unfolding group_start_work
  work_then = simp (eq-eqb _ 0 e)

  pub began_work : group_start_work plans count work ≡ zeros (total js count) ++ drop (total js count) work
  began_work = let all : looked count ≡ count = (let q = o.few in omega arith) in work_then ∙ ap (λ (n : ℕ). zeros (total js n) ++ drop (total js n) work) all

  pub began_work_long : length (group_start_work plans count work) ≡ length work
  began_work_long =
      ap length began_work
      ∙ length-append (zeros (total js count)) (drop (total js count) work)
      ∙ (let a : length (zeros (total js count)) ≡ total js count = length-replicate (total js count) 0 in
      let b = length-drop (total js count) work in
      omega (arith, a, b, o.room))

  pub began_rest : drop (total js count) (group_start_work plans count work) ≡ drop (total js count) work
  began_rest =
      ap (λ (z : List ℕ). drop (total js count) z) began_work
      ∙ drop_at (zeros (total js count)) (drop (total js count) work) (total js count) (length-replicate (total js count) 0)

  module _ (i : ℕ) (l : i < count) where
    within : offset (needs js) i + needs js i ≤ total js count
    within = offset_next (needs js) i count l

    pub part_lent : length (part_in plans count work i) ≡ needs js i
    part_lent = part_long (offset (needs js) i) (needs js i) work (omega (arith, within, o.room))

    pub start_accepted : start_number (plan_in plans count i) (length (part_in plans count work i)) ≡ 0
    start_accepted = ap (λ (x : ℕ). start_number (plan_in plans count i) x) part_lent ∙ o.accepted i l

    part_began : part_at (needs js) i (group_start_work plans count work) ≡ zeros (needs js i)
    part_began =
        let all : ℕ = total js count in
        ap (λ (z : List ℕ). part_at (needs js) i z) began_work
        ∙ part_append (offset (needs js) i) (needs js i) (zeros all) (drop all work) (rw (length-replicate {A = ℕ} all 0) within)
        ∙ cleared_part (offset (needs js) i) (needs js i) all within

    part_alone : start_work (plan_in plans count i) (part_in plans count work i) ≡ zeros (needs js i)
    part_alone =
        (start_went (plan_in plans count i) (part_in plans count work i) start_accepted).work_after
        ∙ ap (λ (z : List ℕ). zeros (needs js i) ++ z) (drop_of_length-le (part_in plans count work i) {i = needs js i} (omega (arith, part_lent)))
        ∙ append-nil (zeros (needs js i))

    -- each job is as its own start would have left it
    pub began_alone : alone i (group_begun plans count work) ≡ begun (plan_in plans count i) (part_in plans count work i)
    began_alone =
        ap (λ (g : Group). record { job = job_at g.jobs i; work = part_at (needs g.jobs) i (group_start_work plans count work); seen = nothing }) began_group
        ∙ ap₂ (λ (j : Job) (w : List ℕ). record { job = j; work = w; seen = nothing }) (o.job_is i l) (part_began ∙ sym part_alone)
