-- What a call answers hangs on the record and on the lengths of what is lent, never on a byte or a work value: the number, the rows accepted, and the
-- next record's plan, accepted and taken. Only the flag is read from the row that is written. For request 10 (SCOPE). Assumes nothing.
use Prim.Native.Nat.{ℕ, ◌+◌}
use mathlib.Core.Path.{◌≡◌, sym, ap, ap₂, ◌∙◌}
use mathlib.Core.Logic.{◌⊎◌, inl, inr}
use mathlib.Core.Bool.{true, false, cond}
use mathlib.Core.List.{List}
use lib.Dec.{eqb}
use lib.ListN.{length}
use Rattle.pixels.proofs.Truths.{test}
use Rattle.job.specs.declared.Job.{Job}
use Rattle.job.specs.Calls.{offer_number, offer_rows, offer_job, take_number, take_job}

pub record SameOffer (j : Job) (rows work rows' work' : List ℕ) : Type 0 where
  pub number : offer_number j (length rows) (length work) ≡ offer_number j (length rows') (length work')
  pub rows_accepted : offer_rows j (length rows) (length work) ≡ offer_rows j (length rows') (length work')
  pub next : offer_job j (length rows) (length work) ≡ offer_job j (length rows') (length work')

pub offer_lengths : (j : Job) (rows work rows' work' : List ℕ) → length rows ≡ length rows' → length work ≡ length work' → SameOffer j rows work rows' work'
offer_lengths j rows work rows' work' a b =
    record {
      number = ap₂ (offer_number j) a b;
      rows_accepted = ap₂ (offer_rows j) a b;
      next = ap₂ (offer_job j) a b;
    }

module _ (j : Job) (n : ℕ) (work : List ℕ) where
  pub plan_after : (take_job j n work).plan ≡ j.plan
  unfolding take_job
  plan_after = by (test (eqb (take_number j n (length work)) 0))
    where
      by : (eqb (take_number j n (length work)) 0 ≡ true) ⊎ (eqb (take_number j n (length work)) 0 ≡ false) → (take_job j n work).plan ≡ j.plan
      by (inl e) = simp e
      by (inr e) = simp e

  pub accepted_after : (take_job j n work).accepted ≡ j.accepted
  unfolding take_job
  accepted_after = by (test (eqb (take_number j n (length work)) 0))
    where
      by : (eqb (take_number j n (length work)) 0 ≡ true) ⊎ (eqb (take_number j n (length work)) 0 ≡ false) → (take_job j n work).accepted ≡ j.accepted
      by (inl e) = simp e
      by (inr e) = simp e

  pub taken_after : (take_job j n work).taken ≡ cond (eqb (take_number j n (length work)) 0) (j.taken + 1) j.taken
  unfolding take_job
  taken_after = by (test (eqb (take_number j n (length work)) 0))
    where
      by : (eqb (take_number j n (length work)) 0 ≡ true) ⊎ (eqb (take_number j n (length work)) 0 ≡ false)
          → (take_job j n work).taken ≡ cond (eqb (take_number j n (length work)) 0) (j.taken + 1) j.taken
      by (inl e) = simp e
      by (inr e) = simp e

pub record SameTake (j : Job) (out work out' work' : List ℕ) : Type 0 where
  pub number : take_number j (length out) (length work) ≡ take_number j (length out') (length work')
  pub plan : (take_job j (length out) work).plan ≡ (take_job j (length out') work').plan
  pub accepted : (take_job j (length out) work).accepted ≡ (take_job j (length out') work').accepted
  pub taken : (take_job j (length out) work).taken ≡ (take_job j (length out') work').taken

pub take_lengths : (j : Job) (out work out' work' : List ℕ) → length out ≡ length out' → length work ≡ length work' → SameTake j out work out' work'
take_lengths j out work out' work' a b =
    let e : take_number j (length out) (length work) ≡ take_number j (length out') (length work') = ap₂ (take_number j) a b in
    record {
      number = e;
      plan = plan_after j (length out) work ∙ sym (plan_after j (length out') work');
      accepted = accepted_after j (length out) work ∙ sym (accepted_after j (length out') work');
      taken = taken_after j (length out) work ∙ ap (λ (x : ℕ). cond (eqb x 0) (j.taken + 1) j.taken) e ∙ sym (taken_after j (length out') work');
    }
