-- What a band comes to (SCOPE, "Bands"): with a right stretch and enough work values it goes through exactly where no row is ready, and is 7 else; 8 is never its number;
-- equal heights have no band, and after one no row is ready. Assumes nothing.
use Prim.Native.Nat.{ℕ, ◌+◌, ◌*◌, ◌-◌, ◌/◌, ◌≤◌, ◌<◌}
use mathlib.Core.Path.{◌≡◌, refl, ap, ◌∙◌}
use mathlib.Core.Logic.{◌⊎◌, inl, inr}
use mathlib.Core.Bool.{Bool, true, false, not, cond}
use native.Mathlib.Omega.{arith}
use borrow.Author.Tests.{lt-ltb}
use Rattle.arithmetic.proofs.Orders.{le_or_lt}
use Rattle.arithmetic.proofs.Quotients.{div_is}
use Rattle.pixels.specs.declared.Refusal.TheVariants.{InvalidBand, RowReady}
use Rattle.pixels.specs.Refusals.{number}
use Rattle.pixels.specs.Sizes.{row_bytes, work_values}
use Rattle.pixels.proofs.Truths.{test}
use Rattle.pixels.proofs.Causes.{first_at}
use Rattle.rows_schedule.specs.Schedule.{used, made}
use Rattle.rows_schedule.proofs.Made.{made_down}
use Rattle.job_rules.specs.declared.Plan.{Plan}
use Rattle.job_rules.specs.Rules.{lanes_of, R}
use Rattle.job_rules.proofs.Rules.{rules_good, rules_of}
use Rattle.job.specs.declared.Job.{Job}
use Rattle.job.specs.Record.{lawful, ready_of, Rules}
use Rattle.job.specs.Calls.{count, more_accepted, offer_number, offer_rows, offer_job}
use Rattle.job.proofs.Views.{whole_of, offer_goes, offer_ready}
use Rattle.job_band.specs.Bands.{band_rows, bad_band, band_number, band_accepted, band_job}
use Rattle.job_band.proofs.Stretching.{Stretch, stretches}
use Rattle.job_band.proofs.Testing.{Exact, exact_of_lem, exact_some, rows_whole, band_tests, as_offered, BandWent, band_went, band_exact, counted_all}

-- ---- the next call, of a record that meets the rules
module _ (j : Job) (n w : ℕ) (rules : Rules j) where
  abbrev law : not (lawful j) ≡ false
  law = ap not (rules_good j.plan j.accepted j.taken j.flag rules)

  pub band_wrong : bad_band j.plan j.accepted n ≡ true → band_number j n w ≡ number InvalidBand
  unfolding band_number
  band_wrong e = first_at (band_tests j n w) 1 (law, tt) e

  module _ (right : bad_band j.plan j.accepted n ≡ false) where
    abbrev exact : Exact j.plan j.accepted n
    exact = exact_of_lem j.plan j.accepted n right

    abbrev band : Stretch j.plan j.accepted (band_rows j.plan j.accepted)
    band = stretches j.plan j.accepted rules.sizes exact.there

    pub band_short : w < work_values (lanes_of j.plan) j.plan.target.width → band_number j n w ≡ 5
    unfolding band_number
    band_short l = first_at (band_tests j n w) 2 (law, (right, tt)) (lt-ltb w (work_values (lanes_of j.plan) j.plan.target.width) l)

    module _ (room : work_values (lanes_of j.plan) j.plan.target.width ≤ w) where
      -- accepted exactly where no row is ready
      pub band_goes : R j.plan j.accepted ≤ j.taken → band_number j n w ≡ 0
      band_goes quiet =
          as_offered j n w law right
          ∙ offer_goes j n w rules (whole_of j.plan n (rows_whole j.plan j.accepted n exact)) room quiet (omega (arith, band.inside, rules.sizes.bottom))

      -- else 7
      pub band_ready : j.taken < R j.plan j.accepted → band_number j n w ≡ number RowReady
      band_ready l = as_offered j n w law right ∙ offer_ready j n w rules (whole_of j.plan n (rows_whole j.plan j.accepted n exact)) room l

    -- 0, 5 or 7
    pub not_wrong : band_number j n w ≡ number InvalidBand → ⊥
    not_wrong e =
        by (le_or_lt (work_values (lanes_of j.plan) j.plan.target.width) w) (le_or_lt (R j.plan j.accepted) j.taken)
      where
        by : (work_values (lanes_of j.plan) j.plan.target.width ≤ w) ⊎ (w < work_values (lanes_of j.plan) j.plan.target.width)
            → (R j.plan j.accepted ≤ j.taken) ⊎ (j.taken < R j.plan j.accepted) → ⊥
        by (inr l) q = omega (arith, e, band_short l)
        by (inl l) (inl q) = omega (arith, e, band_goes l q)
        by (inl l) (inr q) = omega (arith, e, band_ready l q)

bad : (j : Job) (n w : ℕ) → lawful j ≡ false → band_number j n w ≡ 6
unfolding band_number
bad j n w e = first_at (band_tests j n w) 0 tt (ap not e)

-- ---- every number that a band can get: 8 is none of them
pub data Told (n : ℕ) : Type 0 where
  went : n ≡ 0 → Told n
  short : n ≡ 5 → Told n
  unlawful : n ≡ 6 → Told n
  ready : n ≡ 7 → Told n
  other : n ≡ 17 → Told n

module _ (j : Job) (n w : ℕ) where
  pub told : Told (band_number j n w)
  told = by (test (lawful j)) (test (bad_band j.plan j.accepted n))
    where
      six : lawful j ≡ false → band_number j n w ≡ 6
      six e = bad j n w e

      rest : (rules : Rules j) → bad_band j.plan j.accepted n ≡ false
          → (work_values (lanes_of j.plan) j.plan.target.width ≤ w) ⊎ (w < work_values (lanes_of j.plan) j.plan.target.width)
          → (R j.plan j.accepted ≤ j.taken) ⊎ (j.taken < R j.plan j.accepted) → Told (band_number j n w)
      rest rules right (inr l) q = short (band_short j n w rules right l)
      rest rules right (inl l) (inl q) = went (band_goes j n w rules right l q)
      rest rules right (inl l) (inr q) = ready (band_ready j n w rules right l q)

      by : (lawful j ≡ true) ⊎ (lawful j ≡ false) → (bad_band j.plan j.accepted n ≡ true) ⊎ (bad_band j.plan j.accepted n ≡ false) → Told (band_number j n w)
      by (inr e) b = unlawful (six e)
      by (inl e) (inl b) = other (band_wrong j n w (rules_of j.plan j.accepted j.taken j.flag e) b)
      by (inl e) (inr b) =
          rest (rules_of j.plan j.accepted j.taken j.flag e) b (le_or_lt (work_values (lanes_of j.plan) j.plan.target.width) w)
          (le_or_lt (R j.plan j.accepted) j.taken)

  pub never_eight : band_number j n w ≡ 8 → ⊥
  never_eight e = by told
    where
      by : Told (band_number j n w) → ⊥
      by (went q) = omega arith
      by (short q) = omega arith
      by (unlawful q) = omega arith
      by (ready q) = omega arith
      by (other q) = omega arith

-- ---- how many rows the next band has: 0 exactly where every call is 17
module _ (p : Plan) (k : ℕ) where
  pub none_right : band_rows p k ≡ 0 → (n : ℕ) → bad_band p k n ≡ true
  none_right e n = by (test (bad_band p k n))
    where
      by : (bad_band p k n ≡ true) ⊎ (bad_band p k n ≡ false) → bad_band p k n ≡ true
      by (inl t) = t
      by (inr f) = absurd (omega (arith, e, exact_some p k n (exact_of_lem p k n f)))

  pub one_right : 0 < row_bytes (lanes_of p) p.source.width * band_rows p k → bad_band p k (row_bytes (lanes_of p) p.source.width * band_rows p k) ≡ false
  one_right l = band_exact p k (row_bytes (lanes_of p) p.source.width * band_rows p k) (λ e. omega arith) _ refl refl

-- ---- equal heights: every row makes one, so that no band has a row
pub equal_heights : (j : Job) → Rules j → j.plan.crop.height ≡ j.plan.target.height → (n : ℕ) → bad_band j.plan j.accepted n ≡ true
equal_heights j rules e n = by (test (bad_band j.plan j.accepted n))
  where
    div_exact : (d x : ℕ) → 1 ≤ d → x * d / d ≡ x
    div_exact d x q = div_is d (omega arith) (omega arith)

    all : (u : ℕ) → made j.plan.crop.height j.plan.target.height u ≡ u
    all u = rw (← e) (made_down j.plan.crop.height j.plan.crop.height u (omega arith) ∙ div_exact j.plan.crop.height u rules.sizes.crop_height)

    moves : (n : ℕ) → 0 < n → Stretch j.plan j.accepted n → ⊥
    moves n l s =
        let a = s.still 1 l in
        let b = all (used j.plan.crop.y j.plan.crop.height (j.accepted + 1)) in
        let c = all (used j.plan.crop.y j.plan.crop.height j.accepted) in
        omega (arith, s.reached, s.inside)

    by : (bad_band j.plan j.accepted n ≡ true) ⊎ (bad_band j.plan j.accepted n ≡ false) → bad_band j.plan j.accepted n ≡ true
    by (inl t) = t
    by (inr f) =
        let x = exact_of_lem j.plan j.accepted n f in
        absurd (moves (band_rows j.plan j.accepted) (exact_some j.plan j.accepted n x) (stretches j.plan j.accepted rules.sizes x.there))

-- ---- a band that went through
either : (t : Bool) {x : ℕ} → x ≡ 0 → cond t x 0 ≡ 0
either true e = e
either false e = refl

offers_rows : (j : Job) (n w : ℕ) → offer_number j n w ≡ 0 → offer_rows j n w ≡ count j n
unfolding offer_rows
offers_rows j n w e = simp e

offers_next : (j : Job) (n w : ℕ) → offer_number j n w ≡ 0 → offer_job j n w ≡ more_accepted j (count j n)
unfolding offer_job
offers_next j n w e = simp e

module _ (j : Job) (n w : ℕ) (goes : band_number j n w ≡ 0) where
  abbrev b : BandWent j n w
  b = band_went j n w goes

  -- its count is its rows
  pub accepted_is : band_accepted j n w ≡ band_rows j.plan j.accepted
  unfolding band_accepted
  accepted_is = simp goes (offers_rows j n w b.offers ∙ counted_all j n w b)

  pub next_is : band_job j n w ≡ more_accepted j (band_rows j.plan j.accepted)
  unfolding band_job
  next_is = simp goes (offers_next j n w b.offers ∙ ap (more_accepted j) (counted_all j n w b))

  -- after it no row is ready
  pub none_ready : ready_of (band_job j n w) ≡ 0
  unfolding ready_of
  none_ready =
      rw next_is
      (let still = b.band.still (band_rows j.plan j.accepted) (omega arith) in
      let none : R j.plan (j.accepted + band_rows j.plan j.accepted) - j.taken ≡ 0 = omega (arith, b.quiet) in
      either (lawful (more_accepted j (band_rows j.plan j.accepted))) none)
