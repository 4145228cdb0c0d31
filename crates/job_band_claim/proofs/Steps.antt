-- A band as a step: that of the offer of its rows, or none; so that a list with bands leads where a list without leads. Assumes nothing.
use Prim.Native.Nat.{ℕ}
use mathlib.Core.Path.{◌≡◌, refl, ap, ◌∙◌}
use mathlib.Core.Logic.{◌⊎◌, inl, inr}
use mathlib.Core.Bool.{true, false}
use mathlib.Core.List.{List, [], ◌∷◌, append-nil}
use native.Mathlib.Nat.{mul-zero, add-zero}
use lib.Dec.{eqb}
use lib.ListN.{length, take, take-append-drop}
use Rattle.pixels.specs.Sizes.{row_bytes}
use Rattle.pixels.proofs.Truths.{test}
use Rattle.job_rules.specs.declared.Plan.{Plan}
use Rattle.job_rules.specs.Rules.{lanes_of}
use Rattle.job.specs.declared.Job.{Job}
use Rattle.job.specs.Calls as job
use Rattle.job_band.specs.Bands as band
use Rattle.job_claim.specs.Calls.{Call, Offer, Seen, Run, step, run, seen_offer}
use Rattle.job_band_claim.specs.Calls.{BandCall, Plain, Band, band_number, step_with, run_with}

-- ---- of the record's definitions
module _ (j : Job) (rows work : List ℕ) (e : eqb (band.band_number j (length rows) (length work)) 0 ≡ true) where
  rows_same : band.band_accepted j (length rows) (length work) ≡ job.offer_rows j (length rows) (length work)
  unfolding band.band_accepted
  rows_same = simp e

  job_same : band.band_job j (length rows) (length work) ≡ job.offer_job j (length rows) (length work)
  unfolding band.band_job
  job_same = simp e

  work_same : band.band_work j rows work ≡ job.offer_work j rows work
  unfolding band.band_work
  work_same = simp e

module _ (j : Job) (rows work : List ℕ) (e : eqb (band.band_number j (length rows) (length work)) 0 ≡ false) where
  rows_none : band.band_accepted j (length rows) (length work) ≡ 0
  unfolding band.band_accepted
  rows_none = simp e

  job_kept : band.band_job j (length rows) (length work) ≡ j
  unfolding band.band_job
  job_kept = simp e

  work_kept : band.band_work j rows work ≡ work
  unfolding band.band_work
  work_kept = simp e

none_seen : (p : Plan) (s : Seen) (rows : List ℕ) → seen_offer p s rows 0 ≡ s
none_seen p s rows = rw (mul-zero (row_bytes (lanes_of p) p.source.width), append-nil s.source, add-zero s.accepted) refl

-- ---- of a run
module _ (p : Plan) (r : Run) (rows : List ℕ) (lent : ℕ) where
  pub as_offer : eqb (band_number r rows lent) 0 ≡ true → step_with p r (Band rows lent) ≡ step p r (Offer rows lent)
  unfolding step_with step
  as_offer e =
      rw (rows_same r.job rows (take lent r.work) e, job_same r.job rows (take lent r.work) e, work_same r.job rows (take lent r.work) e) refl

  pub as_none : eqb (band_number r rows lent) 0 ≡ false → step_with p r (Band rows lent) ≡ r
  unfolding step_with
  as_none e =
      let part = take lent r.work in
      rw (rows_none r.job rows part e, job_kept r.job rows part e, work_kept r.job rows part e, take-append-drop lent r.work, none_seen p r.seen rows) refl

-- ---- of a list
pub without : (p : Plan) (calls : List BandCall) (r : Run) → (plain : List Call) × (run_with p r calls ≡ run p r plain)
unfolding run_with run step_with
without p [] r = ([], refl)
without p (Plain call ∷ calls) r = let q = without p calls (step p r call) in (call ∷ q.0, q.1)
without p (Band rows lent ∷ calls) r =
    by (without p calls (step p r (Offer rows lent))) (without p calls r) (test (eqb (band_number r rows lent) 0))
  where
    by : ((plain : List Call) × (run_with p (step p r (Offer rows lent)) calls ≡ run p (step p r (Offer rows lent)) plain))
        → ((plain : List Call) × (run_with p r calls ≡ run p r plain))
        → (eqb (band_number r rows lent) 0 ≡ true) ⊎ (eqb (band_number r rows lent) 0 ≡ false)
        → (plain : List Call) × (run_with p r (Band rows lent ∷ calls) ≡ run p r plain)
    by q s (inl e) = (Offer rows lent ∷ q.0, ap (λ (z : Run). run_with p z calls) (as_offer p r rows lent e) ∙ q.1)
    by q s (inr e) = (s.0, ap (λ (z : Run). run_with p z calls) (as_none p r rows lent e) ∙ s.1)
