-- The job that `resize` drives, call after call: what holds of the record, the output and the work values, that an offer and a take keep it, and that one of the
-- two is always accepted until all rows are taken. Assumes nothing.
use Prim.Native.Nat.{ℕ, zero, suc, ◌+◌, ◌-◌, ◌*◌, ◌≤◌, ◌<◌}
use mathlib.Core.Path.{◌≡◌, refl, sym, ap, ◌∙◌}
use mathlib.Core.Logic.{◌⊎◌, inl, inr}
use mathlib.Core.Bool.{Bool, true, false, ◌||◌}
use mathlib.Core.List.{List, [], ◌++◌, append_assoc}
use native.Mathlib.Omega.{arith}
use native.Mathlib.Nat.{mul-zero, mul-mod_right, mul-pos, mul-sub}
use native.Mathlib.Numerals.{add-one}
use lib.ListN.{length, get_or, take, drop, replicate, length-append, length-drop, length-replicate}
use lib.Seq.{get_or-drop, take_at, drop_at, drop-drop}
use Rattle.arithmetic.proofs.Orders.{le_or_lt}
use Rattle.pixels.specs.Sizes.{row_bytes, half_values, work_values, picture_bytes, Fits}
use Rattle.rows_form.specs.Form.{flag_in}
use Rattle.rows_schedule.specs.Schedule.{used}
use Rattle.rows_schedule.proofs.Crop.{rows_all, rows_none}
use Rattle.rows_laws.proofs.Held.{held_start}
use Rattle.job_rules.specs.declared.Plan.{Plan}
use Rattle.job_rules.specs.Rules.{lanes_of, form_of, kind_fits, R}
use Rattle.job.specs.declared.Job.{Job}
use Rattle.job.specs.Record.{Rules, fresh}
use Rattle.job.specs.Calls.{scale_by, count, offer_number, offer_job, offer_work, take_number, take_job, take_out, take_work, row_taken}
use Rattle.job.proofs.Views.{WholeRows, OfferWent, offer_went, offer_goes, TakeWent, take_went, take_goes}
use Rattle.job_start.specs.Start.{cleared}
use Rattle.job_claim.specs.Rows.{row_of, rows_of}
use Rattle.job_claim.proofs.Reading.{Shape, shape_of, crop_value}
use Rattle.job_claim.proofs.Feeding.{Holds, fed_held, fed_length, fed_rest}
use Rattle.job_claim.proofs.Taking.{row_is, left_holds, left_length, left_rest}
use Rattle.job_claim.proofs.Flagged.{flag_append, flag_none}
use Rattle.job_claim.proofs.Whole.{row_of_length}
use Rattle.job_claim.proofs.Invariant.{count_some, count_bytes, offer_rules, take_rules}

-- the bytes of a picture as a function
abbrev pub bytes_of : List ℕ → ℕ → ℕ
bytes_of pixels i = get_or pixels i 0

-- ---- rows one after another
pub rows_of_length : (p : Plan) (b : ℕ → ℕ) (n : ℕ) → length (rows_of p b n) ≡ row_bytes (lanes_of p) p.target.width * n
unfolding rows_of
rows_of_length p b zero = omega arith
rows_of_length p b (suc n) = omega (arith, length-append (rows_of p b n) (row_of p b n), rows_of_length p b n, row_of_length p b n)

pub rows_of_flag : (p : Plan) → Shape p → (b : ℕ → ℕ) (n : ℕ)
    → flag_in (form_of p) (rows_of p b (suc n)) (p.target.width * suc n) ≡ (flag_in (form_of p) (rows_of p b n) (p.target.width * n) || flag_in (form_of p) (row_of p b n) p.target.width)
unfolding rows_of
rows_of_flag p shape b n = flag_append (form_of p) (rows_of p b n) (row_of p b n) p.target.width n (rw shape.lanes_form (rows_of_length p b n))

-- ---- the two halves
module _ (p : Plan) where
  two_halves : work_values (lanes_of p) p.target.width ≡ half_values (lanes_of p) p.target.width + half_values (lanes_of p) p.target.width
  two_halves = omega arith

-- ---- the job under way: the picture's pixels, the output and the work values as they were lent, and as they are
pub record Going (p : Plan) (pixels out₀ work₀ : List ℕ) (j : Job) (out work : List ℕ) : Type 0 where
  pub plan_is : j.plan ≡ p
  pub rules : Rules j
  pub pixels_long : length pixels ≡ picture_bytes (lanes_of j.plan) j.plan.source.width j.plan.source.height
  pub out_long : length out₀ ≡ picture_bytes (lanes_of j.plan) j.plan.target.width j.plan.target.height
  pub room : work_values (lanes_of j.plan) j.plan.target.width ≤ length work
  pub held : Holds j.plan (bytes_of pixels) j.accepted j.taken work
  pub made : out ≡ rows_of j.plan (bytes_of pixels) j.taken ++ drop (row_bytes (lanes_of j.plan) j.plan.target.width * j.taken) out₀
  pub flagged : j.flag ≡ flag_in (form_of j.plan) (rows_of j.plan (bytes_of pixels) j.taken) (j.plan.target.width * j.taken)
  pub rest : drop (work_values (lanes_of j.plan) j.plan.target.width) work ≡ drop (work_values (lanes_of j.plan) j.plan.target.width) work₀
  pub long : length work ≡ length work₀

-- ---- at the start
pub going_first : (p : Plan) (pixels out₀ work₀ : List ℕ) → Fits p.source p.crop p.target → kind_fits p.kind p.layout p.lanes false ≡ true
    → length pixels ≡ picture_bytes (lanes_of p) p.source.width p.source.height
    → length out₀ ≡ picture_bytes (lanes_of p) p.target.width p.target.height → work_values (lanes_of p) p.target.width ≤ length work₀ → Going p pixels out₀ work₀ (fresh p) out₀ (cleared p work₀)
unfolding rows_of
going_first p pixels out₀ work₀ fits kind pl ol room =
    let none : R p 0 ≡ 0 = rows_none p.crop.y p.crop.height p.target.height fits.crop_height in
    let unused : used p.crop.y p.crop.height 0 ≡ 0 = omega arith in
    let w : ℕ = work_values (lanes_of p) p.target.width in
    record {
      plan_is = refl;
      rules = record { sizes = fits; rows = omega arith; low = omega (arith, none); high = omega arith; kind_fitting = kind; flagless = λ q. refl };
      pixels_long = pl;
      out_long = ol;
      room = rw (length-append, length-replicate) (omega arith);
      held = rw (unused, two_halves p) (held_start (scale_by p) (crop_value p (bytes_of pixels)) (drop (half_values (lanes_of p) p.target.width + half_values (lanes_of p) p.target.width) work₀));
      made = rw (mul-zero (row_bytes (lanes_of p) p.target.width)) refl;
      flagged = rw (mul-zero p.target.width) (sym (flag_none (form_of p) []));
      rest = drop_at (replicate w 0) (drop w work₀) w (length-replicate w 0);
      long = rw (length-append, length-replicate, length-drop) (omega arith);
    }

module _ (p : Plan) (pixels out₀ work₀ : List ℕ) (j : Job) (out work : List ℕ) (g : Going p pixels out₀ work₀ j out work) where
  pub shape : Shape j.plan
  shape = shape_of j.plan j.accepted j.taken j.flag g.rules

  -- ---- an offer of all the rows that remain
  module _ (quiet : R j.plan j.accepted ≤ j.taken) (more : j.taken < j.plan.target.height) where
    pub remain : j.accepted < j.plan.source.height
    remain = by (le_or_lt j.plan.source.height j.accepted)
      where
        by : (j.plan.source.height ≤ j.accepted) ⊎ (j.accepted < j.plan.source.height) → j.accepted < j.plan.source.height
        by (inl a) =
            absurd (omega (arith, rows_all j.plan.crop.y j.plan.crop.height j.plan.target.height g.rules.sizes.crop_height j.accepted (omega (arith, g.rules.sizes.bottom))))
        by (inr a) = a

    abbrev pub lent : List ℕ
    lent = drop (row_bytes (lanes_of j.plan) j.plan.source.width * j.accepted) pixels

    pub lent_length : length lent ≡ row_bytes (lanes_of j.plan) j.plan.source.width * (j.plan.source.height - j.accepted)
    lent_length =
        rw (length-drop, g.pixels_long) (sym (mul-sub (row_bytes (lanes_of j.plan) j.plan.source.width) j.plan.source.height j.accepted))

    lent_whole : WholeRows j.plan (length lent)
    lent_whole = record {
      some = rw lent_length (mul-pos (mul-pos shape.lane_count.some g.rules.sizes.source_width.some) (let q : 0 < j.plan.source.height - j.accepted = omega (arith, remain) in q));
      whole = rw lent_length (mul-mod_right (row_bytes (lanes_of j.plan) j.plan.source.width) (j.plan.source.height - j.accepted));
    }

    pub offer_accepted : offer_number j (length lent) (length work) ≡ 0
    offer_accepted = offer_goes j (length lent) (length work) g.rules lent_whole g.room quiet remain

    pub offered : OfferWent j lent work
    offered = offer_went j lent work offer_accepted

    -- rows were accepted
    pub offer_nearer : j.accepted < (offer_job j (length lent) (length work)).accepted
    offer_nearer = rw offered.next (omega (arith, count_some j (length lent) lent_whole quiet remain))

    pub offer_going : Going p pixels out₀ work₀ (offer_job j (length lent) (length work)) out (offer_work j lent work)
    offer_going =
        let q : Plan = j.plan in
        let c : ℕ = count j (length lent) in
        let here = count_bytes j (length lent) lent_whole in
        let len = fed_length q shape g.rules.sizes lent j.accepted c work g.room in
        rw (offered.next, offered.work_after)
        (record {
          plan_is = g.plan_is;
          rules = offer_rules j (length lent) g.rules lent_whole quiet remain;
          pixels_long = g.pixels_long;
          out_long = g.out_long;
          room = rw len g.room;
          held = fed_held q shape g.rules.sizes (bytes_of pixels) lent j.accepted j.taken c work g.rules.high here
              (λ z l. get_or-drop (row_bytes (lanes_of q) q.source.width * j.accepted) pixels z 0) g.held;
          made = g.made;
          flagged = g.flagged;
          rest = fed_rest q shape g.rules.sizes lent j.accepted c work g.room ∙ g.rest;
          long = len ∙ g.long;
        })

  -- ---- a take of the next row into its part of the output
  module _ (ready : j.taken < R j.plan j.accepted) (part : List ℕ) (exact : length part ≡ row_bytes (lanes_of j.plan) j.plan.target.width) where
    pub take_accepted : take_number j (length part) (length work) ≡ 0
    take_accepted = take_goes j (length part) (length work) g.rules exact g.room ready

    took : TakeWent j part work
    took = take_went j part work take_accepted

    pub take_nearer : (take_job j (length part) work).taken ≡ j.taken + 1
    take_nearer = rw took.next refl

    row_made_lem : row_taken j work ≡ row_of j.plan (bytes_of pixels) j.taken
    row_made_lem = row_is j g.rules ready (bytes_of pixels) work g.held

    pub take_going : Going p pixels out₀ work₀ (take_job j (length part) work)
        (take (row_bytes (lanes_of j.plan) j.plan.target.width * j.taken) out ++ (take_out j part work ++ drop (row_bytes (lanes_of j.plan) j.plan.target.width) (drop (row_bytes (lanes_of j.plan) j.plan.target.width * j.taken) out)))
        (take_work j (length part) work)
    unfolding rows_of
    take_going =
        let q : Plan = j.plan in
        let t : ℕ = j.taken in
        let m : ℕ = row_bytes (lanes_of q) q.target.width in
        let b : ℕ → ℕ = bytes_of pixels in
        let len = left_length j work g.room in
        let before : take (m * t) out ≡ rows_of q b t = ap (take (m * t)) g.made ∙ take_at (rows_of q b t) (drop (m * t) out₀) (m * t) (rows_of_length q b t) in
        let after : drop m (drop (m * t) out) ≡ drop (m * t + m) out₀ =
        ap (λ (s : List ℕ). drop m (drop (m * t) s)) g.made ∙ ap (drop m) (drop_at (rows_of q b t) (drop (m * t) out₀) (m * t) (rows_of_length q b t)) ∙ drop-drop m (m * t) out₀ in
        let more : m * suc t ≡ m * t + m = omega arith in
        rw (took.next, took.work_after, took.out_after)
        (record {
          plan_is = g.plan_is;
          rules = take_rules j (row_taken j work) g.rules ready;
          pixels_long = g.pixels_long;
          out_long = g.out_long;
          room = rw len g.room;
          held = rw (add-one t) (left_holds j g.rules ready b work g.held);
          made = rw (add-one t, more, before, after, row_made_lem) (sym (append_assoc (rows_of q b t) (row_of q b t) (drop (m * t + m) out₀)));
          flagged = rw (add-one t, rows_of_flag q shape b t, row_made_lem) (ap (λ (f : Bool). f || flag_in (form_of q) (row_of q b t) q.target.width) g.flagged);
          rest = left_rest j work ∙ g.rest;
          long = len ∙ g.long;
        })
