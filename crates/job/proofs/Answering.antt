-- What offer and take give, as their contracts state it: a refusal leaves everything as it was, and the call that goes through. A number that is a
-- cause's is not 0, so one law for each call turns it into the whole answer. Assumes nothing.
use Prim.Native.Nat.{ℕ, ◌+◌, ◌≤◌}
use mathlib.Core.Path.{◌≡◌, sym, ap, ◌∙◌}
use mathlib.Core.Bool.{Bool}
use mathlib.Core.List.{List}
use native.Mathlib.Omega.{arith}
use lib.ListN.{length}
use Rattle.pixels.specs.declared.Refusal.{Refusal}
use Rattle.pixels.specs.Refusals.{number}
use Rattle.pixels.proofs.Numbers.{not_zero}
use Rattle.rows_schedule.proofs.Crop.{rows_most}
use Rattle.job_rules.specs.Rules.{R}
use Rattle.job.specs.declared.Job.{Job}
use Rattle.job.specs.Record.{Rules}
use Rattle.job.specs.Calls.{most_rows, offer_number, offer_rows, offer_job, offer_work, count, more_accepted, fed, take_number, take_job, take_out, take_work, more_taken, row_taken, work_taken}
use Rattle.job.proofs.Counting.{counted_most}
use Rattle.job.proofs.Views.{offer_went, offer_turned, take_went, take_turned}

-- ---- offer
module _ (j : Job) (rows work : List ℕ) where
  pub offer_refused : (why : Refusal) → offer_number j (length rows) (length work) ≡ number why
      → (number why ≡ offer_number j (length rows) (length work))
      × ((0 ≡ offer_rows j (length rows) (length work))
      × ((j ≡ offer_job j (length rows) (length work)) × (work ≡ offer_work j rows work)))
  offer_refused why e =
      let t = offer_turned j rows work (not_zero why _ e) in
      (sym e, (sym t.none, (sym t.same, sym t.kept)))

  pub offer_accepts : offer_number j (length rows) (length work) ≡ 0 → (n : ℕ) (next : List ℕ) → n ≡ count j (length rows) → next ≡ fed j.plan rows j.accepted (count j (length rows)) work
      → (0 ≡ offer_number j (length rows) (length work))
      × ((n ≡ offer_rows j (length rows) (length work))
      × ((more_accepted j n ≡ offer_job j (length rows) (length work)) × (next ≡ offer_work j rows work)))
  offer_accepts e n next en ew =
      let w = offer_went j rows work e in
      (sym e, (en ∙ sym w.some, (ap (more_accepted j) en ∙ sym w.next, ew ∙ sym w.work_after)))

-- ---- take
module _ (j : Job) (out work : List ℕ) where
  pub take_refused : (why : Refusal) → take_number j (length out) (length work) ≡ number why
      → (number why ≡ take_number j (length out) (length work))
      × ((j ≡ take_job j (length out) work) × ((out ≡ take_out j out work) × (work ≡ take_work j (length out) work)))
  take_refused why e =
      let t = take_turned j out work (not_zero why _ e) in
      (sym e, (sym t.same, (sym t.unwritten, sym t.kept)))

  pub take_writes : take_number j (length out) (length work) ≡ 0 → (row next : List ℕ) (flag : Bool) → row ≡ row_taken j work → next ≡ work_taken j work
      → flag ≡ (more_taken j (row_taken j work)).flag
      → (0 ≡ take_number j (length out) (length work))
      × ((record { plan = j.plan; accepted = j.accepted; taken = j.taken + 1; flag = flag } ≡ take_job j (length out) work)
      × ((row ≡ take_out j out work) × (next ≡ take_work j (length out) work)))
  take_writes e row next flag er en ef =
      let w = take_went j out work e in
      (sym e, (ap (λ (f : Bool). record { plan = j.plan; accepted = j.accepted; taken = j.taken + 1; flag = f }) ef ∙ sym w.next, (er ∙ sym w.out_after, en ∙ sym w.work_after)))

-- ---- the counts fit
pub count_fits : (j : Job) (n x : ℕ) → Rules j → x ≡ count j n → j.accepted + x ≤ 16384
count_fits j n x q e =
    omega (arith, counted_most (R j.plan) j.accepted j.taken (most_rows j n), q.rows, q.sizes.source_height.most)

pub made_fits : (j : Job) → Rules j → R j.plan j.accepted ≤ 16384
made_fits j q =
    omega (arith, rows_most j.plan.crop.y j.plan.crop.height j.plan.target.height q.sizes.crop_height j.accepted, q.sizes.target_height.most)
