-- The jobs that a group's start forms, one by one; and that they meet the rules of a group where the tests before number 5 pass. Assumes nothing.
use Prim.Native.Nat.{ℕ, zero, suc, ◌≤◌, ◌<◌}
use mathlib.Core.Path.{◌≡◌, refl, sym, ◌∙◌, ap}
use mathlib.Core.List.{List}
use mathlib.Core.Bool.{true, false, ◌&&◌}
use mathlib.Core.Logic.{inl, inr, ⊎_elim}
use native.Mathlib.Omega.{arith}
use native.Mathlib.Nat.{eq-or-lt_of_le, le_of_suc-le-suc}
use lib.Dec.{eqb}
use lib.ListN.{length, set, replicate, length-set, length-replicate}
use lib.Seq.{get_or-set_same, get_or-set_other}
use borrow.Author.Tests.{eq-eqb, le-ltb}
use Rattle.pixels.specs.Sizes.{bad_sizes, bad_lanes, crop_beyond}
use Rattle.pixels.proofs.Fitting.{fits_of, sizes_pass, lanes_of_lem}
use Rattle.rows_schedule.proofs.Crop.{rows_none}
use Rattle.job_rules.specs.declared.Kind.{Kind}
use Rattle.job_rules.specs.declared.Kind.TheVariants.{Picture, Plane}
use Rattle.job_rules.specs.declared.Plan.{Plan}
use Rattle.job_rules.specs.Rules.{lanes_of, R, Formed}
use Rattle.job_rules.proofs.Rules.{rules_good}
use Rattle.job_rules.proofs.KindRules.{formed_fits}
use Rattle.job.specs.declared.Job.{Job}
use Rattle.job.specs.Record.{fresh, lawful}
use Rattle.group_rules.specs.Group.{group_limit, spare, job_at, plan_at, given_at, some, differing, formed, formed_by, looked, fresh_jobs, group_of, group_lawful}
use Rattle.group_rules.specs.Inner.{in_step}
use Rattle.group_rules.proofs.Jobs.{every_of, some_none}
use Rattle.group_rules.proofs.Lawful.{looked_most}

-- ---- the jobs, one by one
module _ (plans : List Plan) where
  pub fresh_none : fresh_jobs plans 0 ≡ replicate group_limit spare
  unfolding fresh_jobs
  fresh_none = refl

  fresh_next : (i : ℕ) → fresh_jobs plans (suc i) ≡ set (fresh_jobs plans i) i (fresh (formed (given_at plans i)))
  unfolding fresh_jobs
  fresh_next i = refl

  -- a turn of a loop that forms one job after another
  pub fresh_more : (i : ℕ) (now : List Job) (p : Plan) → now ≡ fresh_jobs plans i → p ≡ formed (given_at plans i) → set now i (fresh p) ≡ fresh_jobs plans (suc i)
  fresh_more i now p e h = rw (e, h) (sym (fresh_next i))

  pub fresh_long : (n : ℕ) → length (fresh_jobs plans n) ≡ group_limit
  fresh_long zero = ap length fresh_none ∙ length-replicate group_limit spare
  fresh_long (suc n) = ap length (fresh_next n) ∙ length-set (fresh_jobs plans n) n (fresh (formed (given_at plans n))) ∙ fresh_long n

  pub fresh_at : (n k : ℕ) → n ≤ group_limit → k < n → job_at (fresh_jobs plans n) k ≡ fresh (formed (given_at plans k))
  fresh_at zero k h l = absurd (omega arith)
  fresh_at (suc n) k h l =
      ap (λ (x : List Job). job_at x k) (fresh_next n)
      ∙ ⊎_elim
      (λ q. rw q (get_or-set_same (fresh_jobs plans n) n (fresh (formed (given_at plans n))) spare (rw (fresh_long n) (omega arith))))
      (λ m. get_or-set_other (fresh_jobs plans n) n k (fresh (formed (given_at plans n))) spare (omega arith) ∙ fresh_at n k (omega arith) m)
      (eq-or-lt_of_le (le_of_suc-le-suc l))

-- ---- each is one that start or start_plane forms
formed_by_lem : (kind : Kind) (p : Plan) → Formed (formed_by kind p)
formed_by_lem Picture p = inl refl
formed_by_lem Plane p = inr refl

pub formed_so : (p : Plan) → Formed (formed p)
formed_so p = formed_by_lem p.kind p

-- ---- a fresh job whose plan passes 1, 10 and 2 meets the record rules
pub fresh_lawful : (p : Plan) → Formed p → bad_sizes p.source p.crop p.target ≡ false → bad_lanes (lanes_of p) ≡ false → crop_beyond p.crop p.source ≡ false
    → lawful (fresh p) ≡ true
fresh_lawful p form sizes lanes inside =
    let fits = fits_of p.source p.crop p.target (sizes_pass p.source p.crop p.target sizes inside) in
    let none : R p 0 ≡ 0 = rows_none p.crop.y p.crop.height p.target.height fits.crop_height in
    rules_good p 0 0 false (record {
      sizes = fits;
      rows = omega arith;
      low = rw none (omega arith);
      high = omega arith;
      kind_fitting = formed_fits p form (lanes_of_lem (lanes_of p) lanes);
      flagless = λ z. refl;
    })

-- it is in step with the first of a group of fresh jobs
fresh_step : (p : Plan) → Formed p → (first : Job) → first.accepted ≡ 0 → (j : Job) → j ≡ fresh p → bad_sizes j.plan.source j.plan.crop j.plan.target ≡ false
    → bad_lanes (lanes_of j.plan) ≡ false → crop_beyond j.plan.crop j.plan.source ≡ false → (lawful j && eqb j.accepted first.accepted) ≡ true
fresh_step p form first none j e sizes lanes inside =
    rw e (simp (fresh_lawful p form (rw e at sizes) (rw e at lanes) (rw e at inside), eq-eqb 0 first.accepted (sym none)))

-- ---- the group
module _ (plans : List Plan) (count : ℕ) where
  abbrev pub jobs : List Job
  jobs = fresh_jobs plans (looked count)

  pub group_fresh : some (λ i. bad_sizes (plan_at jobs i).source (plan_at jobs i).crop (plan_at jobs i).target) (looked count) ≡ false
      → some (λ i. bad_lanes (lanes_of (plan_at jobs i))) (looked count) ≡ false → some (λ i. crop_beyond (plan_at jobs i).crop (plan_at jobs i).source) (looked count) ≡ false
      → differing jobs (looked count) ≡ false → group_lawful (group_of plans count) ≡ true
  unfolding group_lawful
  group_fresh sizes lanes inside same = simp (le-ltb group_limit (looked count) (looked_most count), same, every_of (in_step jobs) (looked count) in_step_lem)
    where
      at : (i : ℕ) → i < looked count → job_at jobs i ≡ fresh (formed (given_at plans i))
      at i l = fresh_at plans (looked count) i (looked_most count) l

      in_step_lem : (i : ℕ) → i < looked count → in_step jobs i ≡ true
      in_step_lem i l =
          fresh_step (formed (given_at plans i)) (formed_so (given_at plans i)) (job_at jobs 0) (ap (λ (j : Job). j.accepted) (at 0 (omega arith))) (job_at jobs i) (at i l)
          (some_none (λ i. bad_sizes (plan_at jobs i).source (plan_at jobs i).crop (plan_at jobs i).target) (looked count) i sizes l)
          (some_none (λ i. bad_lanes (lanes_of (plan_at jobs i))) (looked count) i lanes l)
          (some_none (λ i. crop_beyond (plan_at jobs i).crop (plan_at jobs i).source) (looked count) i inside l)
