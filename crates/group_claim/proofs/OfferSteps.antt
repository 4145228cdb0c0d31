-- A group's offer that accepts rows: each job's own offer of exactly those rows. Assumes nothing.
use Prim.Native.Nat.{ℕ, ◌+◌, ◌*◌, ◌≤◌, ◌<◌, min}
use mathlib.Core.Path.{◌≡◌, sym, ◌∙◌, ap, subst}
use mathlib.Core.List.{List, [], ◌∷◌, ◌++◌}
use mathlib.Core.Logic.{◌⊎◌, ⊎_elim}
use native.Mathlib.Omega.{arith}
use lib.ListN.{length, take, drop, length-take, take-append-drop}
use lib.Seq.{take_all, take-take, length_front, drop-append-le}
use borrow.Author.Tests.{eq-eqb}
use Rattle.arithmetic.proofs.Orders.{le_or_lt}
use Rattle.pixels.specs.Sizes.{row_bytes, work_values}
use Rattle.job_rules.specs.declared.Plan.{Plan}
use Rattle.job_rules.specs.Rules.{lanes_of}
use Rattle.job.specs.declared.Job.{Job}
use Rattle.job.specs.Calls as job
use Rattle.job.specs.Calls.{more_accepted}
use Rattle.job_claim.specs.Calls.{Call, Offer, Seen, seen_offer, run}
use Rattle.group_parts.specs.Parts.{offset, part_at, each_part}
use Rattle.group_parts.proofs.Cutting.{offset_next, part_cong, part_append, part_within, part_long, each_part_lem, each_length, each_rest}
use Rattle.group_rules.specs.declared.Group.{Group}
use Rattle.group_rules.specs.Group.{job_at, plan_at, each_job, needs, total}
use Rattle.group_rules.proofs.Jobs.{jobs_long, job_beyond, job_changed}
use Rattle.group_rules.proofs.Going.{GroupOfferGoes, group_offer_goes}
use Rattle.group.specs.Calls.{group_count, group_offer_rows, fed_rows, with_jobs, group_offered, group_offer_work}
use Rattle.group.proofs.Kept.{offer_length}
use Rattle.group.proofs.Going.{fed_long, same_stride, alone_goes, alone_count}
use Rattle.group_claim.specs.Calls.{OfferAll, GroupRun, group_step, alone, called, offer_number, offer_rows}
use Rattle.group_claim.specs.Claim.{AllGo}
use Rattle.group_claim.proofs.Alone.{same_run, offer_rows_is, offer_job_is, seen_same, offer_alone, run_one}
use Rattle.group_claim.proofs.Stepping.{Stepped}

module _ (r : GroupRun) (long : r.group.count ≤ length r.group.jobs) (rows : List ℕ) (lent : ℕ) (e : offer_number r rows lent ≡ 0) where
  abbrev g : Group
  g = r.group

  abbrev js : List Job
  js = r.group.jobs

  abbrev lent_work : List ℕ
  lent_work = take lent r.work

  abbrev fed : List ℕ
  fed = fed_rows r.group rows

  abbrev rows_in : ℕ
  rows_in = group_count r.group (length rows)

  abbrev next : GroupRun
  next = group_step r (OfferAll rows lent)

  -- each job's change of its own part
  abbrev own : ℕ → List ℕ → List ℕ
  own i = job.offer_work (job_at r.group.jobs i) (fed_rows r.group rows)

  went : GroupOfferGoes g (length rows) (length lent_work)
  went = group_offer_goes g (length rows) (length lent_work) e

  -- ---- what the call left
  next_group : next.group ≡ with_jobs g (each_job (λ j. more_accepted j rows_in) g.count js)
  unfolding group_step group_offered
  next_group = simp (eq-eqb (offer_number r rows lent) 0 e)

  next_work : next.work ≡ each_part (needs js) own g.count lent_work ++ drop lent r.work
  unfolding group_step group_offer_work
  next_work = simp (eq-eqb (offer_number r rows lent) 0 e)

  next_seen : (i : ℕ) → next.seen i ≡ seen_offer (plan_at js i) (r.seen i) rows rows_in
  unfolding group_step group_offer_rows
  next_seen i = simp (eq-eqb (offer_number r rows lent) 0 e)

  called_then : (i : ℕ) → called i r (OfferAll rows lent) ≡ Offer fed (needs js i) ∷ []
  unfolding called
  called_then i = simp (eq-eqb (offer_number r rows lent) 0 e)

  -- ---- the jobs
  next_jobs : next.group.jobs ≡ each_job (λ j. more_accepted j rows_in) g.count js
  next_jobs = ap (λ (x : Group). x.jobs) next_group

  plans : (k : ℕ) → plan_at next.group.jobs k ≡ plan_at js k
  plans k =
      ap (λ (x : List Job). plan_at x k) next_jobs
      ∙ ⊎_elim
      (λ b. ap (λ (x : Job). x.plan) (job_beyond (λ j. more_accepted j rows_in) g.count k js b))
      (λ l. ap (λ (x : Job). x.plan) (job_changed (λ j. more_accepted j rows_in) g.count k js long l))
      (le_or_lt g.count k)

  job_then : (i : ℕ) → i < g.count → job_at next.group.jobs i ≡ job.offer_job (job_at js i) (length fed) (needs js i)
  job_then i l =
      ap (λ (x : List Job). job_at x i) next_jobs
      ∙ job_changed (λ j. more_accepted j rows_in) g.count i js long l
      ∙ sym (offer_job_is (job_at js i) (length fed) (needs js i) (alone_goes g rows (length lent_work) went i l)
      ∙ ap (λ (c : ℕ). more_accepted (job_at js i) c) (alone_count g rows (length lent_work) went i l))

  -- ---- the work values
  keeps : (i : ℕ) (x : List ℕ) → length x ≡ needs js i → length (own i x) ≡ needs js i
  keeps i x h = offer_length (job_at js i) fed x ∙ h

  work_long : length (each_part (needs js) own g.count lent_work) ≡ length lent_work
  work_long = each_length (needs js) own keeps g.count lent_work went.room

  rest : drop (total js g.count) next.work ≡ drop (total js g.count) r.work
  rest =
      ap (λ (z : List ℕ). drop (total js g.count) z) next_work
      ∙ drop-append-le (total js g.count) (each_part (needs js) own g.count lent_work) (drop lent r.work) (rw work_long went.room)
      ∙ ap (λ (z : List ℕ). z ++ drop lent r.work) (each_rest (needs js) own keeps g.count lent_work went.room)
      ∙ sym (drop-append-le (total js g.count) lent_work (drop lent r.work) went.room)
      ∙ ap (λ (z : List ℕ). drop (total js g.count) z) (take-append-drop lent r.work)

  module _ (i : ℕ) (l : i < g.count) where
    within : offset (needs js) i + needs js i ≤ length lent_work
    within = omega (arith, offset_next (needs js) i g.count l, went.room)

    lent_long : length lent_work ≡ min lent (length r.work)
    lent_long = length-take lent r.work

    part_whole : length (part_at (needs js) i r.work) ≡ needs js i
    part_whole = part_long (offset (needs js) i) (needs js i) r.work (omega (arith, within, lent_long))

    part_then : part_at (needs next.group.jobs) i next.work ≡ own i (part_at (needs js) i r.work)
    part_then =
        part_cong (needs next.group.jobs) (needs js) (λ k. ap (λ (p : Plan). work_values (lanes_of p) p.target.width) (plans k)) i next.work
        ∙ ap (λ (z : List ℕ). part_at (needs js) i z) next_work
        ∙ part_append (offset (needs js) i) (needs js i) (each_part (needs js) own g.count lent_work) (drop lent r.work) (rw work_long within)
        ∙ each_part_lem (needs js) own keeps g.count i lent_work went.room l
        ∙ ap (own i) (part_within (offset (needs js) i) (needs js i) lent r.work (omega (arith, within, lent_long)))

    -- ---- what is counted
    all_rows : job.offer_rows (job_at js i) (length fed) (needs js i) ≡ rows_in
    all_rows = offer_rows_is (job_at js i) (length fed) (needs js i) (alone_goes g rows (length lent_work) went i l) ∙ alone_count g rows (length lent_work) went i l

    seen_then : next.seen i ≡ seen_offer (plan_at js i) (r.seen i) fed (job.offer_rows (job_at js i) (length fed) (needs js i))
    seen_then =
        let mine : ℕ = row_bytes (lanes_of (plan_at js i)) (plan_at js i).source.width * rows_in in
        let theirs : ℕ = row_bytes (lanes_of (plan_at js 0)) (plan_at js 0).source.width * rows_in in
        next_seen i
        ∙ seen_same (plan_at js i) (r.seen i) rows fed rows_in (job.offer_rows (job_at js i) (length fed) (needs js i)) (sym all_rows)
        (sym (take-take mine theirs rows (omega (arith, ap (λ (x : ℕ). x * rows_in) (same_stride g rows (length lent_work) went i l)))))

    alone_then : alone i next ≡ run (plan_at js i) (alone i r) (called i r (OfferAll rows lent))
    alone_then =
        same_run _ _ (job_then i l) part_then seen_then
        ∙ sym (ap (λ (x : List Call). run (plan_at js i) (alone i r) x) (called_then i)
        ∙ run_one (plan_at js i) (alone i r) (Offer fed (needs js i))
        ∙ offer_alone (plan_at js i) (alone i r) (needs js i) part_whole fed)

    -- all of it goes through, and every row is accepted
    lent_all : length (take (needs js i) (part_at (needs js) i r.work)) ≡ needs js i
    lent_all = ap length (take_all (needs js i) (part_at (needs js) i r.work) (omega (arith, part_whole))) ∙ part_whole

    all_bytes : row_bytes (lanes_of (plan_at js i)) (plan_at js i).source.width * rows_in ≡ length fed
    all_bytes = ap (λ (x : ℕ). x * rows_in) (same_stride g rows (length lent_work) went i l) ∙ sym (fed_long g rows (length lent_work) went)

    all_go : AllGo (plan_at js i) (alone i r) (called i r (OfferAll rows lent))
    all_go =
        let row : ℕ = row_bytes (lanes_of (plan_at js i)) (plan_at js i).source.width in
        subst (λ (x : List Call). AllGo (plan_at js i) (alone i r) x) (sym (called_then i)) (
          ap (λ (x : ℕ). job.offer_number (job_at js i) (length fed) x) lent_all ∙ alone_goes g rows (length lent_work) went i l,
          ap (λ (x : ℕ). row * job.offer_rows (job_at js i) (length fed) x) lent_all ∙ ap (λ (x : ℕ). row * x) all_rows ∙ all_bytes,
          tt,
        )

  pub offer_accepted : Stepped r (group_step r (OfferAll rows lent)) (OfferAll rows lent)
  offer_accepted = record {
    count_kept = ap (λ (x : Group). x.count) next_group;
    jobs_kept = ap length next_jobs ∙ jobs_long (λ j. more_accepted j rows_in) g.count js;
    plans_kept = plans;
    work_kept = ap length next_work ∙ length_front r.work (each_part (needs js) own g.count lent_work) lent work_long;
    rest_kept = rest;
    rows_in = rows_in;
    together = λ k. ap (λ (s : Seen). s.accepted) (next_seen k);
    beyond_kept = λ k l. ap (λ (x : List Job). job_at x k) next_jobs ∙ job_beyond (λ j. more_accepted j rows_in) g.count k js l;
    alone_is = alone_then;
    all_go = all_go;
  }
