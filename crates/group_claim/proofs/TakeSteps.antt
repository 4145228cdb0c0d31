-- A group's take that succeeds: the named job's own take, and nothing of the others. Assumes nothing.
use Prim.Native.Nat.{ℕ, ◌+◌, ◌-◌, ◌≤◌, ◌<◌, min}
use mathlib.Core.Path.{◌≡◌, refl, sym, ◌∙◌, ap, ap₂, subst}
use mathlib.Core.List.{List, [], ◌∷◌, ◌++◌}
use mathlib.Core.Bool.{Bool, true, false, cond}
use mathlib.Core.Logic.{◌⊎◌, inl, inr, ⊎_elim}
use native.Mathlib.Omega.{arith}
use lib.Dec.{eqb}
use lib.ListN.{length, take, drop, set, length-set, length-take, take-append-drop}
use lib.Seq.{take_all, drop-drop, length_front, drop-append-le, get_or-set_same, get_or-set_other}
use borrow.Author.Tests.{eq-eqb, ne_eqb, eqb-true, eqb-false}
use borrow.Rule.Slice.PartMut.{same_len_mid}
use Rattle.arithmetic.proofs.Orders.{le_or_lt}
use Rattle.pixels.specs.Sizes.{work_values}
use Rattle.pixels.proofs.Truths.{test}
use Rattle.job_rules.specs.declared.Plan.{Plan}
use Rattle.job_rules.specs.Rules.{lanes_of}
use Rattle.job.specs.declared.Job.{Job}
use Rattle.job.specs.Calls as job
use Rattle.job.proofs.Lengths.{plan_after}
use Rattle.job_claim.specs.Calls.{Call, Take, Seen, seen_take, run}
use Rattle.group_parts.specs.Parts.{offset, part_at, put_at}
use Rattle.group_parts.proofs.Cutting.{offset_next, part_cong, part_append, part_within, part_long, put_before, put_there, put_later, put_after}
use Rattle.group_rules.specs.declared.Group.{Group}
use Rattle.group_rules.specs.Group.{spare, job_at, plan_at, needs, total}
use Rattle.group_rules.proofs.Going.{GroupTakeGoes, group_take_goes}
use Rattle.group.specs.Calls.{with_jobs, group_taken, group_take_out, group_take_work}
use Rattle.group.proofs.Going.{alone_takes}
use Rattle.group_claim.specs.Calls.{TakeOf, GroupRun, group_step, alone, called, take_number, take_out}
use Rattle.group_claim.specs.Claim.{AllGo}
use Rattle.group_claim.proofs.Alone.{same_run, take_length, take_alone, run_none, run_one}
use Rattle.group_claim.proofs.Stepping.{Stepped}

-- lists that agree from a on agree from b on
drop_on : (a b : ℕ) (x y : List ℕ) → a ≤ b → drop a x ≡ drop a y → drop b x ≡ drop b y
drop_on a b x y l h =
    let e : a + (b - a) ≡ b = omega arith in
    rw e at (sym (drop-drop (b - a) a x) ∙ ap (λ (z : List ℕ). drop (b - a) z) h ∙ drop-drop (b - a) a y)

-- what is counted of the job that is named, and of the others
seen_named : (i k : ℕ) (s t : Seen) → i ≡ k → cond (eqb i k) s t ≡ s
seen_named i k s t e = simp (eq-eqb i k e)

counts_alike : (s : Seen) (n : ℕ) (o : List ℕ) (f : Bool) → (seen_take s n o f).accepted ≡ s.accepted
counts_alike s n o f = by (eqb n 0)
  where
    by : (b : Bool) → (cond b (record { accepted = s.accepted; source = s.source; taken = s.taken + 1; rows = s.rows ++ (o ∷ []); flag = f }) s).accepted ≡ s.accepted
    by true = refl
    by false = refl

module _ (r : GroupRun) (long : r.group.count ≤ length r.group.jobs) (k : ℕ) (out : List ℕ) (lent : ℕ) (e : take_number r k out lent ≡ 0) where
  abbrev g : Group
  g = r.group

  abbrev js : List Job
  js = r.group.jobs

  abbrev lent_work : List ℕ
  lent_work = take lent r.work

  -- the named job's part, and what the take leaves there
  abbrev mine : List ℕ
  mine = part_at (needs r.group.jobs) k r.work

  abbrev left : List ℕ
  left = job.take_work (job_at r.group.jobs k) (length out) (part_at (needs r.group.jobs) k r.work)

  abbrev after : Job
  after = job.take_job (job_at r.group.jobs k) (length out) (part_at (needs r.group.jobs) k r.work)

  abbrev next : GroupRun
  next = group_step r (TakeOf k out lent)

  took : GroupTakeGoes g k (length out) (length lent_work)
  took = group_take_goes g k (length out) (length lent_work) e

  lent_long : length lent_work ≡ min lent (length r.work)
  lent_long = length-take lent r.work

  within : (i : ℕ) → i < g.count → offset (needs js) i + needs js i ≤ length lent_work
  within i l = omega (arith, offset_next (needs js) i g.count l, took.room)

  lent_in : offset (needs js) k + needs js k ≤ length lent_work
  lent_in = within k took.named

  part_lent : (i : ℕ) → i < g.count → part_at (needs js) i lent_work ≡ part_at (needs js) i r.work
  part_lent i l = part_within (offset (needs js) i) (needs js i) lent r.work (omega (arith, within i l, lent_long))

  mine_lent : part_at (needs js) k lent_work ≡ mine
  mine_lent = part_lent k took.named

  mine_long : length mine ≡ needs js k
  mine_long = part_long (offset (needs js) k) (needs js k) r.work (omega (arith, lent_in, lent_long))

  left_long : length left ≡ needs js k
  left_long = take_length (job_at js k) out mine ∙ mine_long

  -- ---- what the call left
  abbrev put : List ℕ
  put = put_at (offset (needs r.group.jobs) k) (needs r.group.jobs k) (take lent r.work) left

  group_then : group_taken g k (length out) lent_work ≡ with_jobs g (set js k after)
  unfolding group_taken
  group_then = simp (eq-eqb (take_number r k out lent) 0 e, mine_lent)

  work_then : group_take_work g k (length out) lent_work ≡ put
  unfolding group_take_work
  work_then = simp (eq-eqb (take_number r k out lent) 0 e, mine_lent)

  out_then : take_out r k out lent ≡ job.take_out (job_at js k) out mine
  unfolding group_take_out
  out_then = simp (eq-eqb (take_number r k out lent) 0 e, mine_lent)

  next_group : next.group ≡ with_jobs g (set js k after)
  unfolding group_step
  next_group = group_then

  next_work : next.work ≡ put ++ drop lent r.work
  unfolding group_step
  next_work = ap (λ (z : List ℕ). z ++ drop lent r.work) work_then

  called_same : called k r (TakeOf k out lent) ≡ Take out (needs js k) ∷ []
  unfolding called
  called_same = simp (eq-eqb (take_number r k out lent) 0 e, eq-eqb k k refl)

  called_other : (i : ℕ) → eqb i k ≡ false → called i r (TakeOf k out lent) ≡ []
  unfolding called
  called_other i d = simp (eq-eqb (take_number r k out lent) 0 e, d)

  -- ---- the jobs
  next_jobs : next.group.jobs ≡ set js k after
  next_jobs = ap (λ (x : Group). x.jobs) next_group

  job_taken : job_at next.group.jobs k ≡ after
  job_taken = ap (λ (x : List Job). job_at x k) next_jobs ∙ get_or-set_same js k after spare (omega (arith, took.named))

  job_other : (i : ℕ) → eqb i k ≡ false → job_at next.group.jobs i ≡ job_at js i
  job_other i d = ap (λ (x : List Job). job_at x i) next_jobs ∙ get_or-set_other js k i after spare (eqb-false i k d)

  plans : (i : ℕ) → plan_at next.group.jobs i ≡ plan_at js i
  plans i = by (test (eqb i k))
    where
      by : (eqb i k ≡ true) ⊎ (eqb i k ≡ false) → plan_at next.group.jobs i ≡ plan_at js i
      by (inl d) = rw (eqb-true i k d) (ap (λ (x : Job). x.plan) job_taken ∙ plan_after (job_at js k) (length out) mine)
      by (inr d) = ap (λ (x : Job). x.plan) (job_other i d)

  -- ---- the work values
  put_long : length put ≡ length lent_work
  put_long =
      let same = left_long ∙ sym (part_long (offset (needs js) k) (needs js k) lent_work lent_in) in
      same_len_mid (offset (needs js) k) (needs js k) lent_work left same

  part_now : (i : ℕ) → i < g.count → part_at (needs next.group.jobs) i next.work ≡ part_at (needs js) i put
  part_now i l =
      part_cong (needs next.group.jobs) (needs js) (λ x. ap (λ (p : Plan). work_values (lanes_of p) p.target.width) (plans x)) i next.work
      ∙ ap (λ (z : List ℕ). part_at (needs js) i z) next_work
      ∙ part_append (offset (needs js) i) (needs js i) put (drop lent r.work) (rw put_long (within i l))

  part_other : (i : ℕ) → i < g.count → eqb i k ≡ false → part_at (needs js) i put ≡ part_at (needs js) i r.work
  part_other i l d =
      let at : ℕ → ℕ = offset (needs js) in
      let here : offset (needs js) k ≤ length lent_work = omega (arith, lent_in) in
      let other = eqb-false i k d in
      ⊎_elim
      (λ b. put_later (at i) (needs js i) (at k) (needs js k) lent_work left (offset_next (needs js) k i (omega (arith, other))) here left_long)
      (λ b. put_before (at i) (needs js i) (at k) (needs js k) lent_work left (offset_next (needs js) i k b) here)
      (le_or_lt k i)
      ∙ part_lent i l

  rest : drop (total js g.count) next.work ≡ drop (total js g.count) r.work
  rest =
      let all : ℕ = total js g.count in
      let end : ℕ = offset (needs js) k + needs js k in
      let ends = offset_next (needs js) k g.count took.named in
      let there : drop end put ≡ drop end lent_work = put_after (offset (needs js) k) (needs js k) lent_work left (omega (arith, lent_in)) left_long in
      let further : drop all put ≡ drop all lent_work = drop_on end all put lent_work ends there in
      ap (λ (z : List ℕ). drop all z) next_work
      ∙ drop-append-le all put (drop lent r.work) (rw put_long took.room)
      ∙ ap (λ (z : List ℕ). z ++ drop lent r.work) further
      ∙ sym (drop-append-le all lent_work (drop lent r.work) took.room)
      ∙ ap (λ (z : List ℕ). drop all z) (take-append-drop lent r.work)

  -- ---- what is counted
  next_seen : (i : ℕ) → next.seen i ≡ cond (eqb i k) (seen_take (r.seen i) (take_number r k out lent) (take_out r k out lent) (job_at next.group.jobs k).flag) (r.seen i)
  unfolding group_step
  next_seen i = refl

  number_alone : job.take_number (job_at js k) (length out) (length mine) ≡ 0
  number_alone = ap (λ (x : ℕ). job.take_number (job_at js k) (length out) x) mine_long ∙ alone_takes g k (length out) (length lent_work) took

  seen_mine : next.seen k ≡ seen_take (r.seen k) (job.take_number (job_at js k) (length out) (length mine)) (job.take_out (job_at js k) out mine) after.flag
  seen_mine =
      next_seen k
      ∙ seen_named k k _ (r.seen k) refl
      ∙ ap (λ (x : ℕ). seen_take (r.seen k) x (take_out r k out lent) (job_at next.group.jobs k).flag) (e ∙ sym number_alone)
      ∙ ap₂ (λ (o : List ℕ) (f : Bool). seen_take (r.seen k) (job.take_number (job_at js k) (length out) (length mine)) o f) out_then (ap (λ (x : Job). x.flag) job_taken)

  seen_other : (i : ℕ) → eqb i k ≡ false → next.seen i ≡ r.seen i
  seen_other i d = next_seen i ∙ rw d refl

  accepted_mine : (next.seen k).accepted ≡ (r.seen k).accepted + 0
  accepted_mine = ap (λ (s : Seen). s.accepted) seen_mine ∙ counts_alike (r.seen k) (job.take_number (job_at js k) (length out) (length mine)) (job.take_out (job_at js k) out mine) after.flag ∙ omega arith

  accepted_same : (i : ℕ) → (next.seen i).accepted ≡ (r.seen i).accepted + 0
  accepted_same i = by (test (eqb i k))
    where
      by : (eqb i k ≡ true) ⊎ (eqb i k ≡ false) → (next.seen i).accepted ≡ (r.seen i).accepted + 0
      by (inl d) = rw (eqb-true i k d) accepted_mine
      by (inr d) = ap (λ (s : Seen). s.accepted) (seen_other i d) ∙ omega arith

  -- ---- the job that is named
  alone_same : alone k next ≡ run (plan_at js k) (alone k r) (called k r (TakeOf k out lent))
  alone_same =
      let there = put_there (offset (needs js) k) (needs js k) lent_work left (omega (arith, lent_in)) left_long in
      same_run _ _ job_taken (part_now k took.named ∙ there) seen_mine
      ∙ sym (ap (λ (x : List Call). run (plan_at js k) (alone k r) x) called_same
      ∙ run_one (plan_at js k) (alone k r) (Take out (needs js k))
      ∙ take_alone (plan_at js k) (alone k r) (needs js k) mine_long out)

  all_go_same : AllGo (plan_at js k) (alone k r) (called k r (TakeOf k out lent))
  all_go_same =
      let all-lent = ap length (take_all (needs js k) mine (omega (arith, mine_long))) ∙ mine_long in
      subst (λ (x : List Call). AllGo (plan_at js k) (alone k r) x) (sym called_same)
      (ap (λ (x : ℕ). job.take_number (job_at js k) (length out) x) all-lent ∙ alone_takes g k (length out) (length lent_work) took, tt)

  -- ---- the others
  module _ (i : ℕ) (l : i < g.count) where
    alone_either : (eqb i k ≡ true) ⊎ (eqb i k ≡ false) → alone i next ≡ run (plan_at js i) (alone i r) (called i r (TakeOf k out lent))
    alone_either (inl d) = rw (eqb-true i k d) alone_same
    alone_either (inr d) =
        same_run _ (alone i r) (job_other i d) (part_now i l ∙ part_other i l d) (seen_other i d)
        ∙ sym (ap (λ (x : List Call). run (plan_at js i) (alone i r) x) (called_other i d) ∙ run_none (plan_at js i) (alone i r))

    all_go_either : (eqb i k ≡ true) ⊎ (eqb i k ≡ false) → AllGo (plan_at js i) (alone i r) (called i r (TakeOf k out lent))
    all_go_either (inl d) = rw (eqb-true i k d) all_go_same
    all_go_either (inr d) = rw (called_other i d) tt

  pub take_handed : Stepped r (group_step r (TakeOf k out lent)) (TakeOf k out lent)
  take_handed = record {
    count_kept = ap (λ (x : Group). x.count) next_group;
    jobs_kept = ap length next_jobs ∙ length-set js k after;
    plans_kept = plans;
    work_kept = ap length next_work ∙ length_front r.work put lent put_long;
    rest_kept = rest;
    rows_in = 0;
    together = accepted_same;
    beyond_kept = λ i l. job_other i (ne_eqb i k (λ d. omega (arith, took.named)));
    alone_is = λ i l. alone_either i l (test (eqb i k));
    all_go = λ i l. all_go_either i l (test (eqb i k));
  }
