-- What each call comes to: turned away with everything as it was, or gone through; and with buffers of the right length, which. Nothing above
-- opens the definitions of the calls. Assumes nothing.
use Prim.Native.Nat.{ℕ, ◌%◌, ◌≤◌, ◌<◌}
use mathlib.Core.Path.{◌≡◌}
use mathlib.Core.Logic.{◌⊎◌, inl, inr}
use mathlib.Core.Bool.{true, false, not}
use mathlib.Core.List.{List}
use native.Mathlib.Omega.{arith}
use lib.Dec.{eqb, ltb}
use lib.ListN.{length}
use borrow.Author.Tests.{lt-ltb, le-ltb, le-leb, lt-leb, eq-eqb, ne_eqb, leb-false, eqb-true, eqb-false, ltb-false}
use Rattle.pixels.specs.declared.Refusal.TheVariants.{RowReady, AllAccepted, NoneReady}
use Rattle.pixels.specs.Refusals.{Cause, number}
use Rattle.pixels.specs.Sizes.{row_bytes, work_values}
use Rattle.pixels.proofs.Truths.{test, neither_true, not_false, same, same_of}
use Rattle.pixels.proofs.Causes.{first_at, first_none, none_applies}
use Rattle.job_rules.specs.declared.Plan.{Plan}
use Rattle.job_rules.specs.Rules.{lanes_of, R, bad_rows, offer_causes, offer_number_of, take_causes, take_number_of}
use Rattle.job.specs.declared.Job.{Job}
use Rattle.job.specs.Record.{lawful, Rules}
use Rattle.job.specs.Calls.{offer_number, offer_rows, offer_job, offer_work, count, more_accepted, fed, take_number, take_job, take_out, take_work, more_taken, row_taken, work_taken}
use Rattle.job_rules.proofs.Rules.{rules_of, rules_good}

-- the causes of a record, in their order
abbrev offer_tests : Job → ℕ → ℕ → List Cause
offer_tests j n w = offer_causes j.plan j.accepted j.taken j.flag n w

abbrev take_tests : Job → ℕ → ℕ → List Cause
take_tests j n w = take_causes j.plan j.accepted j.taken j.flag n w

-- ---- lengths that are right
pub record WholeRows (p : Plan) (n : ℕ) : Type 0 where
  pub some : 0 < n
  pub whole : n % row_bytes (lanes_of p) p.source.width ≡ 0

pub whole_of : (p : Plan) (n : ℕ) → bad_rows p n ≡ false → WholeRows p n
whole_of p n e =
    let q = neither_true (eqb n 0) _ e in
    record { some = omega (arith, eqb-false n 0 q.0); whole = eqb-true _ 0 (not_false _ q.1) }

pub whole_good : (p : Plan) (n : ℕ) → WholeRows p n → bad_rows p n ≡ false
whole_good p n w = simp (ne_eqb n 0 (λ e. omega (arith, w.some)), eq-eqb (n % row_bytes (lanes_of p) p.source.width) 0 w.whole)

-- the causes of a right call do not apply, and what that says
pub room_of : (p : Plan) (w : ℕ) → ltb w (work_values (lanes_of p) p.target.width) ≡ false → work_values (lanes_of p) p.target.width ≤ w
room_of p w e = ltb-false w _ e

room_good : (p : Plan) (w : ℕ) → work_values (lanes_of p) p.target.width ≤ w → ltb w (work_values (lanes_of p) p.target.width) ≡ false
room_good p w h = le-ltb w (work_values (lanes_of p) p.target.width) h

pub lawful_of_lem : (j : Job) → not (lawful j) ≡ false → Rules j
lawful_of_lem j e = rules_of j.plan j.accepted j.taken j.flag (not_false (lawful j) e)

lawful_good : (j : Job) → Rules j → not (lawful j) ≡ false
lawful_good j r = simp (rules_good j.plan j.accepted j.taken j.flag r)

-- ---- offer
pub record OfferTurned (j : Job) (rows work : List ℕ) : Type 0 where
  pub none : offer_rows j (length rows) (length work) ≡ 0
  pub same : offer_job j (length rows) (length work) ≡ j
  pub kept : offer_work j rows work ≡ work

pub record OfferWent (j : Job) (rows work : List ℕ) : Type 0 where
  pub rules : Rules j
  pub whole : WholeRows j.plan (length rows)
  pub room : work_values (lanes_of j.plan) j.plan.target.width ≤ length work
  pub none_ready : R j.plan j.accepted ≤ j.taken
  pub remain : j.accepted < j.plan.source.height
  pub goes : offer_number j (length rows) (length work) ≡ 0
  pub some : offer_rows j (length rows) (length work) ≡ count j (length rows)
  pub next : offer_job j (length rows) (length work) ≡ more_accepted j (count j (length rows))
  pub work_after : offer_work j rows work ≡ fed j.plan rows j.accepted (count j (length rows)) work

pub offer_went : (j : Job) (rows work : List ℕ) → offer_number j (length rows) (length work) ≡ 0 → OfferWent j rows work
unfolding offer_number_of offer_rows offer_job offer_work
offer_went j rows work e =
    let q = none_applies (offer_tests j (length rows) (length work)) e in
    record {
      rules = lawful_of_lem j q.0;
      whole = whole_of j.plan (length rows) q.1.0;
      room = room_of j.plan (length work) q.1.1.0;
      none_ready = ltb-false _ _ q.1.1.1.0;
      remain = leb-false _ _ q.1.1.1.1.0;
      goes = e;
      some = simp (eq-eqb _ 0 e);
      next = simp (eq-eqb _ 0 e);
      work_after = simp (eq-eqb _ 0 e);
    }

pub offer_turned : (j : Job) (rows work : List ℕ) → eqb (offer_number j (length rows) (length work)) 0 ≡ false → OfferTurned j rows work
unfolding offer_rows offer_job offer_work
offer_turned j rows work e = record { none = simp e; same = simp e; kept = simp e }

pub offer_view : (j : Job) (rows work : List ℕ) → OfferTurned j rows work ⊎ OfferWent j rows work
offer_view j rows work = by (test (eqb (offer_number j (length rows) (length work)) 0))
  where
    by : (eqb (offer_number j (length rows) (length work)) 0 ≡ true) ⊎ (eqb (offer_number j (length rows) (length work)) 0 ≡ false) → OfferTurned j rows work ⊎ OfferWent j rows work
    by (inl e) = inr (offer_went j rows work (eqb-true _ 0 e))
    by (inr e) = inl (offer_turned j rows work e)

-- with buffers of the right length
module _ (j : Job) (n w : ℕ) (rules : Rules j) (whole : WholeRows j.plan n) (room : work_values (lanes_of j.plan) j.plan.target.width ≤ w) where
  -- the first three pass
  abbrev lawful_passes : not (lawful j) ≡ false
  lawful_passes = lawful_good j rules

  abbrev rows_pass : bad_rows j.plan n ≡ false
  rows_pass = whole_good j.plan n whole

  abbrev room_passes : ltb w (work_values (lanes_of j.plan) j.plan.target.width) ≡ false
  room_passes = room_good j.plan w room

  pub offer_goes : R j.plan j.accepted ≤ j.taken → j.accepted < j.plan.source.height → offer_number j n w ≡ 0
  unfolding offer_number_of
  offer_goes a b =
      let quiet = le-ltb j.taken (R j.plan j.accepted) a in
      let left = lt-leb j.plan.source.height j.accepted b in
      first_none (offer_tests j n w) (lawful_passes, (rows_pass, (room_passes, (quiet, (left, tt)))))

  pub offer_ready : j.taken < R j.plan j.accepted → offer_number j n w ≡ number RowReady
  unfolding offer_number_of
  offer_ready a =
      first_at (offer_tests j n w) 3 (lawful_passes, (rows_pass, (room_passes, tt))) (lt-ltb j.taken (R j.plan j.accepted) a)

  pub offer_all : R j.plan j.accepted ≤ j.taken → j.plan.source.height ≤ j.accepted → offer_number j n w ≡ number AllAccepted
  unfolding offer_number_of
  offer_all a b =
      let quiet = le-ltb j.taken (R j.plan j.accepted) a in
      first_at (offer_tests j n w) 4 (lawful_passes, (rows_pass, (room_passes, (quiet, tt)))) (le-leb j.plan.source.height j.accepted b)

-- ---- take
pub record TakeTurned (j : Job) (out work : List ℕ) : Type 0 where
  pub refused : eqb (take_number j (length out) (length work)) 0 ≡ false
  pub same : take_job j (length out) work ≡ j
  pub kept : take_work j (length out) work ≡ work
  pub unwritten : take_out j out work ≡ out

pub record TakeWent (j : Job) (out work : List ℕ) : Type 0 where
  pub rules : Rules j
  pub exact : length out ≡ row_bytes (lanes_of j.plan) j.plan.target.width
  pub room : work_values (lanes_of j.plan) j.plan.target.width ≤ length work
  pub ready : j.taken < R j.plan j.accepted
  pub goes : take_number j (length out) (length work) ≡ 0
  pub next : take_job j (length out) work ≡ more_taken j (row_taken j work)
  pub work_after : take_work j (length out) work ≡ work_taken j work
  pub out_after : take_out j out work ≡ row_taken j work

pub take_went : (j : Job) (out work : List ℕ) → take_number j (length out) (length work) ≡ 0 → TakeWent j out work
unfolding take_number_of take_job take_work take_out
take_went j out work e =
    let q = none_applies (take_tests j (length out) (length work)) e in
    record {
      rules = lawful_of_lem j q.0;
      exact = same_of (length out) _ q.1.0;
      room = room_of j.plan (length work) q.1.1.0;
      ready = leb-false _ _ q.1.1.1.0;
      goes = e;
      next = simp (eq-eqb _ 0 e);
      work_after = simp (eq-eqb _ 0 e);
      out_after = simp (eq-eqb _ 0 e);
    }

pub take_turned : (j : Job) (out work : List ℕ) → eqb (take_number j (length out) (length work)) 0 ≡ false → TakeTurned j out work
unfolding take_job take_work take_out
take_turned j out work e = record { refused = e; same = simp e; kept = simp e; unwritten = simp e }

pub take_view : (j : Job) (out work : List ℕ) → TakeTurned j out work ⊎ TakeWent j out work
take_view j out work = by (test (eqb (take_number j (length out) (length work)) 0))
  where
    by : (eqb (take_number j (length out) (length work)) 0 ≡ true) ⊎ (eqb (take_number j (length out) (length work)) 0 ≡ false) → TakeTurned j out work ⊎ TakeWent j out work
    by (inl e) = inr (take_went j out work (eqb-true _ 0 e))
    by (inr e) = inl (take_turned j out work e)

module _ (j : Job) (n w : ℕ) (rules : Rules j) (exact : n ≡ row_bytes (lanes_of j.plan) j.plan.target.width) (room : work_values (lanes_of j.plan) j.plan.target.width ≤ w) where
  -- the first three pass
  abbrev lawful_good_take : not (lawful j) ≡ false
  lawful_good_take = lawful_good j rules

  abbrev length_passes : not (eqb n (row_bytes (lanes_of j.plan) j.plan.target.width)) ≡ false
  length_passes = same n (row_bytes (lanes_of j.plan) j.plan.target.width) exact

  abbrev room_good_take : ltb w (work_values (lanes_of j.plan) j.plan.target.width) ≡ false
  room_good_take = room_good j.plan w room

  pub take_goes : j.taken < R j.plan j.accepted → take_number j n w ≡ 0
  unfolding take_number_of
  take_goes a =
      let ready = lt-leb (R j.plan j.accepted) j.taken a in
      first_none (take_tests j n w) (lawful_good_take, (length_passes, (room_good_take, (ready, tt))))

  pub take_none : R j.plan j.accepted ≤ j.taken → take_number j n w ≡ number NoneReady
  unfolding take_number_of
  take_none a =
      let away = le-leb (R j.plan j.accepted) j.taken a in
      first_at (take_tests j n w) 3 (lawful_good_take, (length_passes, (room_good_take, tt))) away
