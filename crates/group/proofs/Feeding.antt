-- The loops of an offer: a source row for every job, and one row after another. Assumes nothing.
use Prim.Native.Nat.{ℕ, suc, ◌+◌, ◌*◌, ◌-◌, ◌≤◌, ◌<◌}
use mathlib.Core.Path.{◌≡◌, refl, sym, ◌∙◌, ap, ap₂}
use mathlib.Core.List.{List}
use native.Mathlib.Omega.{arith}
use native.Mathlib.Nat.{mul-le-mul_left}
use native.Mathlib.Numerals.{add-one}
use lib.ListN.{length, take, drop, set, length-drop}
use lib.Seq.{length-take-le}
use borrow.Rule.Slice.PartMut.{put_mid, same_len_mid}
use Rattle.pixels.specs.Sizes.{row_bytes}
use Rattle.pixels_crop.specs.Crop.{picture_row}
use Rattle.pixels_crop.proofs.Windows.{row_part}
use Rattle.rows_in.specs.In.{in_work}
use Rattle.job_rules.specs.declared.Plan.{Plan}
use Rattle.job_rules.specs.Rules.{lanes_of, form_of}
use Rattle.job_rules.proofs.KindRules.{lanes_form}
use Rattle.job.specs.declared.Job.{Job}
use Rattle.job.specs.Calls.{row_accepted, fed, more_accepted}
use Rattle.job.specs.Inner.{RowAsks}
use Rattle.job.proofs.RowIn.{row_in_lem}
use Rattle.group_parts.specs.Parts.{part_at, each_part}
use Rattle.group_parts.proofs.Cutting.{offset_zero, offset_suc, part_long, each_none, each_more, each_kept, each_same, each_twice}
use Rattle.group_rules.specs.declared.Group.{Group}
use Rattle.group_rules.specs.Group.{group_limit, job_at, plan_at, each_job, needs, total}
use Rattle.group_rules.specs.Tests.{group_offer_number}
use Rattle.group_rules.proofs.Jobs.{jobs_none, jobs_next, job_beyond}
use Rattle.group_rules.proofs.Lawful.{LawfulGroup, lawful_group, lanes_here}
use Rattle.group_rules.proofs.Going.{GroupOfferGoes, group_offer_goes}
use Rattle.group.specs.Inner.{RowForAll}
use Rattle.group.specs.Calls.{group_count, with_jobs}
use Rattle.group.proofs.Kept.{accepted_length, fed_none, fed_suc, fed_length}
use Rattle.group.proofs.Going.{legal_offer, part_small, part_fits, in_lent, in_source, same_stride}

-- ---- a source row for every job
pub record Feeding (g : Group) (s : ℕ) (row work₀ work : List ℕ) (at i : ℕ) : Type 0 where
  pub place : at ≡ total g.jobs i
  pub long : length work ≡ length work₀
  pub work_is : work ≡ each_part (needs g.jobs) (λ k. row_accepted (plan_at g.jobs k) row s) i work₀

pub feeding_first : (g : Group) (s : ℕ) (row w : List ℕ) → Feeding g s row w w 0 0
feeding_first g s row w = record {
  place = sym (offset_zero _);
  long = refl;
  work_is = sym (each_none _ _ w);
}

module _ {g : Group} {s : ℕ} {row work₀ work : List ℕ} {at i : ℕ} (a : RowForAll g row work₀) (v : Feeding g s row work₀ work at i) (l : i < g.count) where
  abbrev p : Plan
  p = plan_at g.jobs i

  facts : LawfulGroup g
  facts = lawful_group g a.lawful

  pub within : i < group_limit
  within = omega (arith, facts.few)

  module _ (half : ℕ) (h : half ≡ row_bytes (lanes_of p) p.target.width) where
    pub small : at + 2 * half ≤ 1048576
    small = part_small g facts at i half work (omega (arith, a.room, v.long)) l v.place h

    pub fits : at + 2 * half ≤ length work
    fits = part_fits g facts at i half work (omega (arith, a.room, v.long)) l v.place h

    -- for any number d of values that is the job's need
    more : (d : ℕ) → d ≡ needs g.jobs i → at + d ≤ length work → (ys : List ℕ)
        → ys ≡ in_work (form_of p) p.crop p.target s row (take (at + d - at) (drop at work))
        → Feeding g s row work₀ (put_mid at (at + d - at) work ys) (at + d) (i + 1)
    more d q fit ys e =
        let z : at + d - at ≡ d = omega arith in
        let part : List ℕ = take (at + d - at) (drop at work) in
        let own : length part ≡ needs g.jobs i = rw z (part_long at d work fit) ∙ q in
        let m = facts.member i l in
        let asks : RowAsks p row part = record {
          fits = m.rules.sizes;
          lane_count = lanes_here (job_at g.jobs i) m.rules;
          lanes_form = lanes_form p.kind p.layout p.lanes (job_at g.jobs i).flag m.rules.kind_fitting;
          long = a.long ∙ sym (ap₂ row_bytes m.alike.lanes m.alike.width);
          room = omega (arith, own);
        } in
        let f : ys ≡ row_accepted p row s part = e ∙ row_in_lem p row s part asks in
        record {
          place = rw (add-one i) (rw (offset_suc (needs g.jobs) i) (omega (arith, v.place, q)));
          long = same_len_mid at (at + d - at) work ys (ap length f ∙ accepted_length p row s part (omega (arith, own))) ∙ v.long;
          work_is = rw (add-one i) (each_more (needs g.jobs) (λ k. row_accepted (plan_at g.jobs k) row s) i work₀ at (at + d - at) work ys v.place (z ∙ q) v.work_is f);
        }

    pub feeding_more : (ys : List ℕ)
        → ys ≡ in_work (form_of p) p.crop p.target s row (take (at + 2 * half - at) (drop at work))
        → Feeding g s row work₀ (put_mid at (at + 2 * half - at) work ys) (at + 2 * half) (i + 1)
    feeding_more ys e = more (2 * half) (omega (arith, h)) fits ys e

-- ---- one row after another: the first r rows are fed to all
pub record Rows (g : Group) (rows work₀ work : List ℕ) (r : ℕ) : Type 0 where
  pub long : length work ≡ length work₀
  pub work_is : work ≡ each_part (needs g.jobs) (λ i. fed (plan_at g.jobs i) rows (job_at g.jobs 0).accepted r) g.count work₀

pub rows_first : (g : Group) (rows w : List ℕ) → Rows g rows w w 0
rows_first g rows w = record {
  long = refl;
  work_is = sym (each_kept (needs g.jobs) (λ i. fed (plan_at g.jobs i) rows (job_at g.jobs 0).accepted 0) (λ i x. fed_none (plan_at g.jobs i) rows _ x) g.count w);
}

module _ {g : Group} {c : ℕ} {rows work₀ work : List ℕ} {r : ℕ} (goes : group_offer_number g (length rows) (length work₀) ≡ 0) (is : c ≡ group_count g (length rows)) (v : Rows g rows work₀ work r) (l : r < c)
    (stride : ℕ) (h : stride ≡ row_bytes (lanes_of (plan_at g.jobs 0)) (plan_at g.jobs 0).source.width) where
  abbrev o : GroupOfferGoes g (length rows) (length work₀)
  o = group_offer_goes g (length rows) (length work₀) goes

  abbrev js : List Job
  js = g.jobs

  abbrev k : ℕ
  k = (job_at js 0).accepted

  pub row_lent : stride * r + stride ≤ length rows
  row_lent =
      let m : stride * suc r ≤ stride * group_count g (length rows) = mul-le-mul_left stride (omega arith) in
      let q : stride * group_count g (length rows) ≤ length rows = rw h (in_lent g (length rows) (length work₀) o) in
      omega (arith, m, q)

  pub row_number : k + r < 16384
  row_number = omega (arith, in_source g (length rows) (length work₀) o, (o.group.member 0 o.group.some).rules.sizes.source_height.most)

  -- the row as the code lends it
  abbrev row : List ℕ
  row = take (stride * r + stride - stride * r) (drop (stride * r) rows)

  row_long : length row ≡ stride
  row_long =
      let z : stride * r + stride - stride * r ≡ stride = omega arith in
      rw z (length-take-le stride (drop (stride * r) rows) (rw (length-drop (stride * r) rows) (omega (arith, row_lent))))

  row_is : (i : ℕ) → i < g.count → row ≡ picture_row (lanes_of (plan_at js i)) rows (plan_at js i).source.width r
  row_is i b =
      let e : stride ≡ row_bytes (lanes_of (plan_at js i)) (plan_at js i).source.width = h ∙ sym (same_stride g rows (length work₀) o i b) in
      rw e (row_part (lanes_of (plan_at js i)) rows (plan_at js i).source.width r)

  pub row_asks : RowForAll g row work
  row_asks = record { lawful = legal_offer g (length rows) (length work₀) goes; long = row_long ∙ h; room = omega (arith, o.room, v.long) }

  abbrev before : ℕ → List ℕ → List ℕ
  before i = fed (plan_at js i) rows k r

  abbrev this : ℕ → List ℕ → List ℕ
  this i = row_accepted (plan_at js i) row (k + r)

  abbrev after : ℕ → List ℕ → List ℕ
  after i = fed (plan_at js i) rows k (suc r)

  before_keeps : (i : ℕ) (x : List ℕ) → length x ≡ needs js i → length (before i x) ≡ needs js i
  before_keeps i x e = fed_length (plan_at js i) rows k r x (omega arith) ∙ e

  this_keeps : (i : ℕ) (x : List ℕ) → length x ≡ needs js i → length (this i x) ≡ needs js i
  this_keeps i x e = accepted_length (plan_at js i) row (k + r) x (omega arith) ∙ e

  after_keeps : (i : ℕ) (x : List ℕ) → length x ≡ needs js i → length (after i x) ≡ needs js i
  after_keeps i x e = fed_length (plan_at js i) rows k (suc r) x (omega arith) ∙ e

  pub rows_more : (next : List ℕ) → length next ≡ length work → next ≡ each_part (needs js) this g.count work → Rows g rows work₀ next (r + 1)
  rows_more next len e = record {
    long = len ∙ v.long;
    work_is =
        rw (add-one r)
        (e
        ∙ ap (λ (z : List ℕ). each_part (needs js) this g.count z) v.work_is
        ∙ each_twice (needs js) this before this_keeps before_keeps g.count work₀ o.room
        ∙ each_same (needs js) (λ i x. this i (before i x)) after (λ i x q. this_keeps i (before i x) (before_keeps i x q)) after_keeps g.count work₀ o.room
        (λ i b. let x : List ℕ = part_at (needs js) i work₀ in
        ap (λ (z : List ℕ). row_accepted (plan_at js i) z (k + r) (before i x)) (row_is i b) ∙ sym (fed_suc (plan_at js i) rows k r x)));
  }

-- ---- all records with c rows more
pub record Advancing (g : Group) (c : ℕ) (next : Group) (i : ℕ) : Type 0 where
  pub counted : next.count ≡ g.count
  pub jobs : next.jobs ≡ each_job (λ j. more_accepted j c) i g.jobs

pub advancing_first : (g : Group) (c : ℕ) → Advancing g c g 0
advancing_first g c = record { counted = refl; jobs = sym (jobs_none _ g.jobs) }

module _ {g : Group} {c : ℕ} {next : Group} {i : ℕ} (v : Advancing g c next i) where
  -- the next record is as it was
  pub advancing_here : job_at next.jobs i ≡ job_at g.jobs i
  advancing_here = ap (λ (js : List Job). job_at js i) v.jobs ∙ job_beyond (λ j. more_accepted j c) i i g.jobs (omega arith)

  pub advancing_more : Advancing g c (record { count = next.count; jobs = set next.jobs i (more_accepted (job_at next.jobs i) c) }) (i + 1)
  advancing_more = record {
    counted = v.counted;
    jobs = rw (add-one i) (jobs_next (λ j. more_accepted j c) g.jobs i next.jobs _ v.jobs (ap (λ (j : Job). more_accepted j c) advancing_here));
  }

  pub advancing_done : i ≡ g.count → next ≡ with_jobs g (each_job (λ j. more_accepted j c) g.count g.jobs)
  advancing_done e =
      ap₂ (λ (x : ℕ) (y : List Job). record { count = x; jobs = y }) v.counted
      (v.jobs ∙ ap (λ (x : ℕ). each_job (λ j. more_accepted j c) x g.jobs) e)
