-- A call of a group that goes through: every job alone accepts the rows that the group accepts, and hands out the row that the group hands out. Assumes nothing.
use Prim.Native.Nat.{ℕ, zero, suc, ◌+◌, ◌*◌, ◌-◌, ◌/◌, ◌≤◌, ◌<◌}
use mathlib.Core.Path.{◌≡◌, refl, sym, ◌∙◌, ap, ap₂}
use mathlib.Core.List.{List}
use mathlib.Core.Bool.{true, false}
use mathlib.Core.Logic.{inl}
use native.Mathlib.Omega.{arith}
use native.Mathlib.Nat.{mul-le-mul_left, mul-mod_right, mul-div_cancel_left, mul-pos, div-add-mod}
use lib.ListN.{length, take, drop}
use lib.Seq.{length-take-le}
use borrow.Rule.Slice.PartMut.{put_mid}
use borrow.Author.Tests.{ltb-false}
use Rattle.pixels.specs.Sizes.{row_bytes}
use Rattle.pixels.proofs.Truths.{not_false}
use Rattle.pixels.proofs.Causes.{none_applies}
use Rattle.job_rules.specs.declared.Plan.{Plan}
use Rattle.job_rules.specs.Rules.{lanes_of, R}
use Rattle.job.specs.declared.Job.{Job}
use Rattle.job.specs.Calls as job
use Rattle.job.specs.Calls.{lent_rows, fed, offer_work}
use Rattle.job.proofs.Counting.{counted_is}
use Rattle.job.proofs.Views.{WholeRows, offer_went, offer_goes, take_goes}
use Rattle.group_parts.specs.Parts.{offset, part_at, put_at, each_part}
use Rattle.group_parts.proofs.Cutting.{offset_most, offset_next, part_long, cut_is, put_is, each_same}
use Rattle.group_rules.specs.declared.Group.{Group}
use Rattle.group_rules.specs.Group.{group_limit, job_at, plan_at, needs, total, group_lawful}
use Rattle.group_rules.specs.Tests.{ready_at, some_ready, group_offer_causes, group_offer_number}
use Rattle.group_rules.proofs.Jobs.{some_none}
use Rattle.group_rules.proofs.Lawful.{LawfulGroup, lanes_here, need_most}
use Rattle.group_rules.proofs.Going.{GroupOfferGoes, GroupTakeGoes}
use Rattle.group.specs.Calls.{most_rows, group_count, fed_rows}
use Rattle.group.proofs.Kept.{fed_length, fed_front, offer_length}
use Rattle.group.proofs.Counted.{count_most, count_some, count_low}

-- ---- where the part of a job stands, half being the values of a half as the code has them
module _ (g : Group) (few : LawfulGroup g) (at i half : ℕ) (w : List ℕ)
    (room : total g.jobs g.count ≤ length w) (l : i < g.count)
    (e : at ≡ total g.jobs i) (h : half ≡ row_bytes (lanes_of (plan_at g.jobs i)) (plan_at g.jobs i).target.width) where
  narrow : (k : ℕ) → k < g.count → needs g.jobs k ≤ 131072
  narrow k m = need_most g.jobs k (few.member k m).rules

  pub part_small : at + 2 * half ≤ 1048576
  part_small = omega (arith, few.few, narrow i l, h, e, offset_most (needs g.jobs) 131072 i (λ k m. narrow k (omega arith)))

  pub part_fits : at + 2 * half ≤ length w
  part_fits = omega (arith, e, h, offset_next (needs g.jobs) i g.count l)

-- ---- offer

pub legal_offer : (g : Group) (n w : ℕ) → group_offer_number g n w ≡ 0 → group_lawful g ≡ true
unfolding group_offer_number
legal_offer g n w e = not_false _ (none_applies (group_offer_causes g n w) e).0

-- the length of a source row
abbrev pub stride_of : Group → ℕ
stride_of g = row_bytes (lanes_of (plan_at g.jobs 0)) (plan_at g.jobs 0).source.width

-- of n bytes lent and w work values
module _ (g : Group) (n w : ℕ) (o : GroupOfferGoes g n w) where
  abbrev js : List Job
  js = g.jobs

  pub stride_pos : 0 < stride_of g
  stride_pos = let m = o.group.member 0 o.group.some in mul-pos (lanes_here (job_at js 0) m.rules).some m.rules.sizes.source_width.some

  lent_is : n ≡ stride_of g * lent_rows (plan_at js 0) n
  lent_is = omega (arith, div-add-mod n (stride_of g), o.whole.whole)

  some_lent : 0 < lent_rows (plan_at js 0) n
  some_lent = by (lent_rows (plan_at js 0) n) refl
    where
      by : (x : ℕ) → lent_rows (plan_at js 0) n ≡ x → 0 < x
      by zero e = absurd (let q : n ≡ stride_of g * 0 = lent_is ∙ ap (λ (z : ℕ). stride_of g * z) e in omega (arith, o.whole.some))
      by (suc x) e = omega arith

  pub most_some : 0 < most_rows g n
  most_some = omega (arith, some_lent, o.remain)

  pub count_pos : 0 < group_count g n
  count_pos = count_some g n most_some

  -- they are among the rows lent and the rows that the source has left
  pub in_lent : stride_of g * group_count g n ≤ n
  in_lent =
      let l : group_count g n ≤ lent_rows (plan_at js 0) n = omega (arith, count_most g n) in
      omega (arith, lent_is, mul-le-mul_left (stride_of g) l)

  pub in_source : (job_at js 0).accepted + group_count g n ≤ (plan_at js 0).source.height
  in_source = omega (arith, count_most g n, o.remain)

  quiet : (x : ℕ) → x < group_count g n → some_ready js g.count ((job_at js 0).accepted + x) ≡ false
  quiet x l =
      let z : (job_at js 0).accepted + 0 ≡ (job_at js 0).accepted = omega arith in
      count_low g n (rw z o.none_ready) x l

-- of the rows lent themselves
module _ (g : Group) (rows : List ℕ) (w : ℕ) (o : GroupOfferGoes g (length rows) w) where
  abbrev jobs : List Job
  jobs = g.jobs

  -- the rows accepted
  abbrev accepts : ℕ
  accepts = group_count g (length rows)

  -- the bytes fed are the rows counted
  pub fed_long : length (fed_rows g rows) ≡ stride_of g * accepts
  fed_long = length-take-le (stride_of g * accepts) rows (in_lent g (length rows) w o)

  module _ (i : ℕ) (l : i < g.count) where
    pub same_stride : row_bytes (lanes_of (plan_at jobs i)) (plan_at jobs i).source.width ≡ stride_of g
    same_stride = ap₂ row_bytes (o.group.member i l).alike.lanes (o.group.member i l).alike.width

    long_here : length (fed_rows g rows) ≡ row_bytes (lanes_of (plan_at jobs i)) (plan_at jobs i).source.width * accepts
    long_here = fed_long ∙ ap (λ (x : ℕ). x * accepts) (sym same_stride)

    wide : 0 < row_bytes (lanes_of (plan_at jobs i)) (plan_at jobs i).source.width
    wide = rw same_stride (stride_pos g (length rows) w o)

    none : (x : ℕ) → x < accepts → R (plan_at jobs i) ((job_at jobs i).accepted + x) ≤ (job_at jobs i).taken
    none x h =
        rw (o.group.member i l).accepted
        (ltb-false _ _ (some_none (λ k. ready_at (job_at jobs k) ((job_at jobs 0).accepted + x)) g.count i (quiet g (length rows) w o x h) l))

    pub alone_whole : WholeRows (plan_at jobs i) (length (fed_rows g rows))
    alone_whole = record {
      some = rw long_here (mul-pos wide (count_pos g (length rows) w o));
      whole = rw long_here (mul-mod_right (row_bytes (lanes_of (plan_at jobs i)) (plan_at jobs i).source.width) accepts);
    }

    -- the job alone accepts them
    pub alone_goes : job.offer_number (job_at jobs i) (length (fed_rows g rows)) (needs jobs i) ≡ 0
    alone_goes =
        let z : (job_at jobs i).accepted + 0 ≡ (job_at jobs i).accepted = omega arith in
        let m = o.group.member i l in
        offer_goes (job_at jobs i) (length (fed_rows g rows)) (needs jobs i) m.rules alone_whole (omega arith)
        (rw z at (none 0 (count_pos g (length rows) w o))) (omega (arith, o.remain, m.accepted, m.alike.height))

    -- and all of them
    pub alone_count : job.count (job_at jobs i) (length (fed_rows g rows)) ≡ accepts
    alone_count =
        let j : Job = job_at jobs i in
        let m = o.group.member i l in
        let s : ℕ = row_bytes (lanes_of (plan_at jobs i)) (plan_at jobs i).source.width in
        let z : j.accepted + 0 ≡ j.accepted = omega arith in
        let e : lent_rows j.plan (length (fed_rows g rows)) ≡ accepts = ap (λ (x : ℕ). x / s) long_here ∙ mul-div_cancel_left accepts wide in
        let q : job.most_rows j (length (fed_rows g rows)) ≡ accepts = rw e (omega (arith, in_source g (length rows) w o, m.accepted, m.alike.height)) in
        ap (λ (x : ℕ). job.counted (R j.plan) j.accepted j.taken x) q
        ∙ counted_is (R j.plan) j.accepted j.taken (rw z at (none 0 (count_pos g (length rows) w o))) accepts accepts (omega arith) none (inl refl)

    -- its own offer of them is those rows fed
    pub alone_fed : (x : List ℕ) → length x ≡ needs jobs i → offer_work (job_at jobs i) (fed_rows g rows) x ≡ fed (plan_at jobs i) rows (job_at jobs 0).accepted accepts x
    alone_fed x e =
        let p : Plan = plan_at jobs i in
        let went = offer_went (job_at jobs i) (fed_rows g rows) x (ap (λ (z : ℕ). job.offer_number (job_at jobs i) (length (fed_rows g rows)) z) e ∙ alone_goes) in
        went.work_after
        ∙ ap (λ (c : ℕ). fed p (fed_rows g rows) (job_at jobs i).accepted c x) alone_count
        ∙ ap (λ (k : ℕ). fed p (fed_rows g rows) k accepts x) (o.group.member i l).accepted
        ∙ fed_front p rows (job_at jobs 0).accepted accepts (stride_of g * accepts) x (rw same_stride (omega arith))

  -- all of them: each part fed is each job's own offer
  pub all_fed : (work : List ℕ) → w ≡ length work
      → each_part (needs jobs) (λ i. fed (plan_at jobs i) rows (job_at jobs 0).accepted accepts) g.count work
      ≡ each_part (needs jobs) (λ i. offer_work (job_at jobs i) (fed_rows g rows)) g.count work
  all_fed work e =
      let fits : total jobs g.count ≤ length work = omega (arith, o.room) in
      each_same (needs jobs) (λ i. fed (plan_at jobs i) rows (job_at jobs 0).accepted accepts) (λ i. offer_work (job_at jobs i) (fed_rows g rows))
      (λ i x h. fed_length (plan_at jobs i) rows (job_at jobs 0).accepted accepts x (omega arith) ∙ h)
      (λ i x h. offer_length (job_at jobs i) (fed_rows g rows) x ∙ h)
      g.count work fits
      (λ i l. sym (alone_fed i l (part_at (needs jobs) i work)
      (part_long (offset (needs jobs) i) (needs jobs i) work (omega (arith, offset_next (needs jobs) i g.count l)))))

-- ---- take, of job i

pub alone_takes : (g : Group) (i n w : ℕ) → GroupTakeGoes g i n w → job.take_number (job_at g.jobs i) n (needs g.jobs i) ≡ 0
alone_takes g i n w o =
    take_goes (job_at g.jobs i) n (needs g.jobs i) (o.group.member i o.named).rules o.exact (omega arith) o.ready

-- its part of the work values, which starts at `at`; half is what the code has for the values of a half
module _ (g : Group) (i at n : ℕ) (work : List ℕ) (o : GroupTakeGoes g i n (length work)) (e : at ≡ total g.jobs i) where
  pub take_within : i < group_limit
  take_within = omega (arith, o.group.few, o.named)

  module _ (half : ℕ) (h : half ≡ row_bytes (lanes_of (plan_at g.jobs i)) (plan_at g.jobs i).target.width) where
    pub take_small : at + 2 * half ≤ 1048576
    take_small = part_small g o.group at i half work o.room o.named e h

    pub take_fits : at + 2 * half ≤ length work
    take_fits = part_fits g o.group at i half work o.room o.named e h

    pub take_cut : take (at + 2 * half - at) (drop at work) ≡ part_at (needs g.jobs) i work
    take_cut = cut_is (needs g.jobs) i at (2 * half) work e (omega (arith, h))

    pub take_put : (ys zs : List ℕ) → ys ≡ zs → put_mid at (at + 2 * half - at) work ys ≡ put_at (total g.jobs i) (needs g.jobs i) work zs
    take_put ys zs q = put_is (needs g.jobs) i at (2 * half) work ys zs e (omega (arith, h)) q
