-- Calls with a buffer of another length get 3, 4 or 5, and a call that is turned away leaves the run as it was. Assumes nothing.
use Prim.Native.Nat.{ℕ, ◌%◌, ◌<◌}
use mathlib.Core.Path.{◌≡◌}
use mathlib.Core.Logic.{inl, inr}
use mathlib.Core.Bool.{true, false, not, or-true}
use mathlib.Core.List.{List}
use lib.Dec.{eqb}
use lib.ListN.{length, take}
use borrow.Author.Tests.{eq-eqb, ne_eqb, lt-ltb}
use Rattle.pixels.specs.Sizes.{row_bytes, work_values}
use Rattle.pixels.specs.Refusals.{Cause}
use Rattle.pixels.proofs.Truths.{differ, same}
use Rattle.pixels.proofs.Causes.{first_at}
use Rattle.job_rules.specs.declared.Plan.{Plan}
use Rattle.job_rules.specs.Rules.{lanes_of, bad_rows, lawful_of, offer_causes, offer_number_of, take_causes, take_number_of}
use Rattle.job_rules.proofs.Rules.{rules_good}
use Rattle.job.proofs.Views
use Rattle.job.proofs.Views.{whole_good}
use Rattle.job_claim.specs.Calls.{Offer, Take, Seen, step, offer_number, take_number, take_out}
use Rattle.job_claim.specs.Claim.{WrongRows, ShortWork}
use Rattle.job_claim.proofs.Invariant.{job_at, run_at, Inv, offer_stays, take_stays}

wrong_rows : (p : Plan) (rows : List ℕ) → WrongRows p rows → bad_rows p (length rows) ≡ true
wrong_rows p rows (inl e) = simp (eq-eqb (length rows) 0 e)
wrong_rows p rows (inr h) = rw (differ (length rows % row_bytes (lanes_of p) p.source.width) 0 h) (or-true (eqb (length rows) 0))

module _ (p : Plan) (s : Seen) (work : List ℕ) (v : Inv p s work) where
  lawful_passes : not (lawful_of p s.accepted s.taken s.flag) ≡ false
  lawful_passes = simp (rules_good p s.accepted s.taken s.flag v.rules)

  module _ (rows : List ℕ) (lent : ℕ) where
    abbrev offer_tests : List Cause
    offer_tests = offer_causes p s.accepted s.taken s.flag (length rows) (length (take lent work))

    pub offer_three : WrongRows p rows → offer_number (run_at p s work) rows lent ≡ 3
    unfolding offer_number_of
    offer_three w = first_at offer_tests 1 (lawful_passes, tt) (wrong_rows p rows w)

    pub offer_five : 0 < length rows → length rows % row_bytes (lanes_of p) p.source.width ≡ 0 → ShortWork p (run_at p s work) lent
        → offer_number (run_at p s work) rows lent ≡ 5
    unfolding offer_number_of
    offer_five some whole short =
        first_at offer_tests 2 (lawful_passes, (whole_good p (length rows) (record { some = some; whole = whole }), tt)) (lt-ltb _ (work_values (lanes_of p) p.target.width) short)

    pub offer_same : (offer_number (run_at p s work) rows lent ≡ 0 → ⊥) → step p (run_at p s work) (Offer rows lent) ≡ run_at p s work
    offer_same h = offer_stays p s work v rows lent (Views.offer_turned (job_at p s) rows (take lent work) (ne_eqb _ 0 h))

  module _ (out : List ℕ) (lent : ℕ) where
    abbrev take_tests : List Cause
    take_tests = take_causes p s.accepted s.taken s.flag (length out) (length (take lent work))

    pub take_four : (length out ≡ row_bytes (lanes_of p) p.target.width → ⊥) → take_number (run_at p s work) out lent ≡ 4
    unfolding take_number_of
    take_four h = first_at take_tests 1 (lawful_passes, tt) (differ (length out) (row_bytes (lanes_of p) p.target.width) h)

    pub take_five : length out ≡ row_bytes (lanes_of p) p.target.width → ShortWork p (run_at p s work) lent → take_number (run_at p s work) out lent ≡ 5
    unfolding take_number_of
    take_five exact short =
        first_at take_tests 2 (lawful_passes, (same (length out) (row_bytes (lanes_of p) p.target.width) exact, tt)) (lt-ltb _ (work_values (lanes_of p) p.target.width) short)

    pub take_same : (take_number (run_at p s work) out lent ≡ 0 → ⊥)
        → (step p (run_at p s work) (Take out lent) ≡ run_at p s work) × (take_out (run_at p s work) out lent ≡ out)
    take_same h =
        let o = Views.take_turned (job_at p s) out (take lent work) (ne_eqb _ 0 h) in
        (take_stays p s work v out lent o, o.unwritten)
