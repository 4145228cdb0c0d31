-- Demand 3 over every list of calls that may hold bands: the claim of job_claim as it stands, and what is claimed of the next band. proofs/Theorem.antt proves it.
-- Assumes nothing.
use Rattle.std.specs.Prelude.{ℕ, ◌≤◌, ◌<◌, ◌≡◌, true, false, List, length, take}
use Rattle.pixels.specs.Sizes.{work_values}
use Rattle.job_rules.specs.declared.Plan.{Plan}
use Rattle.job_rules.specs.Rules.{lanes_of, Formed, R, start_number}
use Rattle.job_band.specs.Bands.{band_rows, next_band, bad_band}
use Rattle.job_claim.specs.Calls.{Offer, Run, step, begun}
use Rattle.job_claim.specs.Claim.{Claim, ShortWork}
use Rattle.job_band_claim.specs.Calls.{BandCall, Band, band_number, band_accepted, step_with, run_with}

-- "exactly those rows", and enough work values: 17 and 5 don't apply
pub record RightBand (p : Plan) (r : Run) (rows : List ℕ) (lent : ℕ) : Type 0 where
  pub exact : bad_band p r.seen.accepted (length rows) ≡ false
  pub room : work_values (lanes_of p) p.target.width ≤ length (take lent r.work)

pub record BandClaim (p : Plan) (r : Run) : Type 0 where
  -- how many rows the next band has, as the job tells it
  pub band_asked : next_band r.job ≡ band_rows p r.seen.accepted
  -- with right buffers the next band is accepted exactly when taken = R(accepted), all its rows being counted, and is otherwise 7
  pub band_goes : (rows : List ℕ) (lent : ℕ) → RightBand p r rows lent → r.seen.taken ≡ R p r.seen.accepted
      → (band_number r rows lent ≡ 0) × (band_accepted r rows lent ≡ band_rows p r.seen.accepted)
  pub band_ready : (rows : List ℕ) (lent : ℕ) → RightBand p r rows lent → r.seen.taken < R p r.seen.accepted → band_number r rows lent ≡ 7
  -- another stretch, or one where there is no band, is 17, ahead of 5
  pub wrong_band : (rows : List ℕ) (lent : ℕ) → bad_band p r.seen.accepted (length rows) ≡ true → band_number r rows lent ≡ 17
  pub band_short : (rows : List ℕ) (lent : ℕ) → bad_band p r.seen.accepted (length rows) ≡ false → ShortWork p r lent → band_number r rows lent ≡ 5
  -- an accepted band is the step of the offer of its rows; any other changes nothing
  pub band_offered : (rows : List ℕ) (lent : ℕ) → band_number r rows lent ≡ 0 → step_with p r (Band rows lent) ≡ step p r (Offer rows lent)
  pub band_turned : (rows : List ℕ) (lent : ℕ) → (band_number r rows lent ≡ 0 → ⊥) → step_with p r (Band rows lent) ≡ r

-- for every accepting start, of a picture or of a plane, and every list of calls with bands among them
abbrev pub BandDemand3 : Type 0
BandDemand3 =
    (p : Plan) (work : List ℕ) → Formed p → start_number p (length work) ≡ 0 → (calls : List BandCall)
    → Claim p work (run_with p (begun p work) calls) × BandClaim p (run_with p (begun p work) calls)
