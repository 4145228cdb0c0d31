-- A start: what its number says, and its answer as the contract states it. Assumes nothing.
use Prim.Native.Nat.{ℕ, ◌≤◌}
use mathlib.Core.Path.{◌≡◌, refl, sym, ap, ◌∙◌}
use mathlib.Core.List.{List, ◌++◌}
use lib.ListN.{length, take, drop, replicate}
use lib.Seq.{length-take-le}
use borrow.Author.Tests.{eq-eqb}
use Rattle.pixels.specs.declared.Refusal.{Refusal}
use Rattle.pixels.specs.Refusals.{number}
use Rattle.pixels.specs.Sizes.{work_values, sizes_causes, sizes_number, Fits, LaneCount}
use Rattle.pixels.proofs.Causes.{first_none, none_applies}
use Rattle.pixels.proofs.Fitting.{fits_of, lanes_of_lem}
use Rattle.pixels.proofs.Numbers.{not_zero}
use Rattle.job_rules.specs.declared.Plan.{Plan}
use Rattle.job_rules.specs.Rules.{lanes_of, start_causes, start_number}
use Rattle.job.specs.Record.{fresh}
use Rattle.job.proofs.Views.{room_of}
use Rattle.job_start.specs.Start.{cleared, start_work}

-- a start that is not turned away
pub record StartWent (p : Plan) (work : List ℕ) : Type 0 where
  pub sizes : Fits p.source p.crop p.target
  pub lane_count : LaneCount (lanes_of p)
  pub room : work_values (lanes_of p) p.target.width ≤ length work
  pub work_after : start_work p work ≡ cleared p work

pub start_went : (p : Plan) (work : List ℕ) → start_number p (length work) ≡ 0 → StartWent p work
unfolding start_number start_work sizes_number
start_went p work e =
    let q = none_applies (start_causes p (length work)) e in
    record {
      sizes = fits_of p.source p.crop p.target (first_none (sizes_causes p.source p.crop p.target) (q.0, (q.1.1.0, tt)));
      lane_count = lanes_of_lem (lanes_of p) q.1.0;
      room = room_of p (length work) q.1.1.1.0;
      work_after = simp (eq-eqb _ 0 e);
    }

-- ---- the answers
module _ (p : Plan) (work : List ℕ) where
  pub start_refused : (why : Refusal) → start_number p (length work) ≡ number why → (number why ≡ start_number p (length work)) × ((fresh p ≡ fresh p) × (work ≡ start_work p work))
  unfolding start_work
  start_refused why e = (sym e, (refl, simp (not_zero why _ e)))

  pub start_goes : start_number p (length work) ≡ 0 → (n : ℕ) (next : List ℕ) → n ≡ work_values (lanes_of p) p.target.width → next ≡ replicate n 0 ++ drop n work
      → (0 ≡ start_number p (length work)) × ((fresh p ≡ fresh p) × (next ≡ start_work p work))
  unfolding start_work
  start_goes z n next en e = (sym z, (refl, e ∙ rw en (simp (eq-eqb _ 0 z))))

-- the first n values filled with 0
pub filled : (n : ℕ) (work part : List ℕ) → n ≤ length work → part ≡ replicate (length (take n work)) 0 → part ++ drop n work ≡ replicate n 0 ++ drop n work
filled n work part room e = ap (λ (t : List ℕ). t ++ drop n work) (e ∙ rw (length-take-le n work room) refl)
