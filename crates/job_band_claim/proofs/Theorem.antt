-- Demand 3 over lists with bands: each leads where a list without bands leads, and the next band is told by what was counted. Assumes nothing.
use Prim.Native.Nat.{ℕ, ◌≤◌}
use mathlib.Core.Path.{refl, sym}
use mathlib.Core.List.{List}
use native.Mathlib.Omega.{arith}
use lib.ListN.{length, take}
use borrow.Author.Tests.{eq-eqb, ne_eqb}
use Rattle.job_rules.specs.declared.Plan.{Plan}
use Rattle.job_rules.specs.Rules.{R}
use Rattle.job_rules.proofs.Rules.{rules_good}
use Rattle.job_band.specs.Bands.{band_rows}
use Rattle.job_band.proofs.Testing.{next_some}
use Rattle.job_band.proofs.Views as views
use Rattle.job_band.proofs.Views.{accepted_is}
use Rattle.job_claim.specs.Calls.{Seen, begun}
use Rattle.job_claim.proofs.Invariant.{job_at, run_at, Inv, run_kept, begun_kept}
use Rattle.job_claim.proofs.Theorem.{demand_3}
use Rattle.job_band_claim.specs.Calls.{band_number}
use Rattle.job_band_claim.specs.Claim.{BandClaim, BandDemand3}
use Rattle.job_band_claim.proofs.Steps.{as_offer, as_none, without}

-- the next band, by what was counted
next_band_lem : (p : Plan) (s : Seen) (work : List ℕ) → Inv p s work → BandClaim p (run_at p s work)
next_band_lem p s work v = record {
  band_asked = sym (next_some (job_at p s) (band_rows p s.accepted) (rules_good p s.accepted s.taken (job_at p s).flag v.rules) refl);
  band_goes = λ rows lent b e.
      let le : R p s.accepted ≤ s.taken = omega arith in
      let z = views.band_goes (job_at p s) (length rows) (length (take lent work)) v.rules b.exact b.room le in
      (z, accepted_is (job_at p s) (length rows) (length (take lent work)) z);
  band_ready = λ rows lent b l. views.band_ready (job_at p s) (length rows) (length (take lent work)) v.rules b.exact b.room l;
  wrong_band = λ rows lent e. views.band_wrong (job_at p s) (length rows) (length (take lent work)) v.rules e;
  band_short = λ rows lent e l. views.band_short (job_at p s) (length rows) (length (take lent work)) v.rules e l;
  band_offered = λ rows lent e. as_offer p (run_at p s work) rows lent (eq-eqb (band_number (run_at p s work) rows lent) 0 e);
  band_turned = λ rows lent h. as_none p (run_at p s work) rows lent (ne_eqb (band_number (run_at p s work) rows lent) 0 h);
}

-- an end in itself
pub band_demand_3 : BandDemand3
band_demand_3 p work formed accepted calls =
    let q = without p calls (begun p work) in
    let k = run_kept p work q.0 (begun p work) (begun_kept p work formed accepted) in
    (rw q.1 (demand_3.every_list p work formed accepted q.0), rw q.1 (rw k.is (next_band_lem p k.seen k.work k.inv)))
