-- DEMAND 3 proved: each part of the claim follows from the invariant, and a list that offers one row after another and takes what is ready reaches the end.
-- Assumes nothing.
use Prim.Native.Nat.{ℕ, zero, suc, ◌+◌, ◌-◌, ◌≤◌, ◌<◌, min}
use mathlib.Core.Path.{◌≡◌, refl}
use mathlib.Core.Logic.{◌⊎◌, inl, inr}
use mathlib.Core.List.{List, []}
use native.Mathlib.Omega.{arith}
use lib.ListN.{length, get_or, take, replicate, length-replicate}
use lib.Seq.{take-length}
use Rattle.arithmetic.proofs.Orders.{le_or_lt}
use Rattle.pixels.specs.Sizes.{row_bytes}
use Rattle.rows_schedule.proofs.Crop.{rows_most}
use Rattle.job_rules.specs.declared.Plan.{Plan}
use Rattle.job_rules.specs.Rules.{lanes_of, Formed, R}
use Rattle.job_rules.proofs.Rules.{rules_good}
use Rattle.job.specs.declared.Job.{Job}
use Rattle.job.specs.Record.{ready_of}
use Rattle.job.specs.Calls.{most_rows, count, lent_rows}
use Rattle.job.proofs.Counting.{counted_stop}
use Rattle.job.proofs.Ready.{ready_some}
use Rattle.job.proofs.Views
use Rattle.job.proofs.Views.{WholeRows, TakeWent, OfferWent}
use Rattle.job_claim.specs.Rows.{row_of}
use Rattle.job_claim.specs.Calls.{Seen, Run, begun, offer_number, offer_rows, take_number}
use Rattle.job_claim.specs.Claim.{RightTake, RightOffer, Ready, Smallest, RestStays, Claim, Demand3}
use Rattle.job_claim.proofs.Invariant.{job_at, run_at, Inv, run_kept, begun_kept, take_leads, take_kept, count_some, count_most, count_low}
use Rattle.job_claim.proofs.TurnedAway.{offer_three, offer_five, offer_same, take_four, take_five, take_same}
use Rattle.job_claim.proofs.ByKind.{picture_alpha, picture_colour, plane_byte, picture_whole, picture_flag_lem}
use Rattle.job_claim.proofs.Reaching.{some_list}

-- ---- the next call, by what was counted
module _ (p : Plan) (s : Seen) (work : List ℕ) (v : Inv p s work) where
  abbrev r : Run
  r = run_at p s work

  take_succeeds : (out : List ℕ) (lent : ℕ) → RightTake p r out lent → s.taken < R p s.accepted → take_number r out lent ≡ 0
  take_succeeds out lent b l = Views.take_goes (job_at p s) (length out) (length (take lent work)) v.rules b.exact b.room l

  take_refused : (out : List ℕ) (lent : ℕ) → RightTake p r out lent → R p s.accepted ≤ s.taken → take_number r out lent ≡ 9
  take_refused out lent b l = Views.take_none (job_at p s) (length out) (length (take lent work)) v.rules b.exact b.room l

  -- a take that succeeds leads on
  took : (out : List ℕ) (lent : ℕ) → take_number r out lent ≡ 0 → TakeWent (job_at p s) out (take lent work)
  took out lent e = Views.take_went (job_at p s) out (take lent work) e

  module _ (rows : List ℕ) (lent : ℕ) (b : RightOffer p r rows lent) where
    whole_rows : WholeRows p (length rows)
    whole_rows = record { some = b.some; whole = b.whole }

    offer_succeeds : R p s.accepted ≤ s.taken → s.accepted < p.source.height → offer_number r rows lent ≡ 0
    offer_succeeds a l = Views.offer_goes (job_at p s) (length rows) (length (take lent work)) v.rules whole_rows b.room a l

    offer_refused_ready : s.taken < R p s.accepted → offer_number r rows lent ≡ 7
    offer_refused_ready a = Views.offer_ready (job_at p s) (length rows) (length (take lent work)) v.rules whole_rows b.room a

    offer_refused_all : R p s.accepted ≤ s.taken → p.source.height ≤ s.accepted → offer_number r rows lent ≡ 8
    offer_refused_all a l = Views.offer_all (job_at p s) (length rows) (length (take lent work)) v.rules whole_rows b.room a l

    went : R p s.accepted ≤ s.taken → s.accepted < p.source.height → OfferWent (job_at p s) rows (take lent work)
    went a l = Views.offer_went (job_at p s) rows (take lent work) (offer_succeeds a l)

    rows_are : R p s.accepted ≤ s.taken → s.accepted < p.source.height → offer_rows r rows lent ≡ count (job_at p s) (length rows)
    rows_are a l = (went a l).some

-- ---- the count, in SCOPE's words
module _ (j : Job) (n : ℕ) (whole : WholeRows j.plan n) (quiet : R j.plan j.accepted ≤ j.taken) (remain : j.accepted < j.plan.source.height) where
  count_smallest : Smallest j.plan j.accepted j.taken (lent_rows j.plan n) (j.plan.source.height - j.accepted) (count j n)
  count_smallest = record {
    with_least = λ c pos above below. least c pos above below (le_or_lt (count j n) c) (le_or_lt (min lent left) (count j n));
    with_none = λ none. no_least none (le_or_lt (min lent left) (count j n));
  }
    where
      lent : ℕ
      lent = lent_rows j.plan n

      left : ℕ
      left = j.plan.source.height - j.accepted

      some : 0 < count j n
      some = count_some j n whole quiet remain

      stops : count j n < most_rows j n → j.taken < R j.plan (j.accepted + count j n)
      stops = counted_stop (R j.plan) j.accepted j.taken (most_rows j n)

      least : (c : ℕ) → 0 < c → j.taken < R j.plan (j.accepted + c) → ((i : ℕ) → 0 < i → i < c → R j.plan (j.accepted + i) ≤ j.taken)
          → (count j n ≤ c) ⊎ (c < count j n) → (most_rows j n ≤ count j n) ⊎ (count j n < most_rows j n)
          → count j n ≡ min (most_rows j n) c
      least c pos above below (inr x) y = absurd (omega (arith, count_low j n quiet c x))
      least c pos above below (inl x) (inl y) = omega (arith, count_most j n)
      least c pos above below (inl x) (inr y) = by (le_or_lt c (count j n))
        where
          by : (c ≤ count j n) ⊎ (count j n < c) → count j n ≡ min (most_rows j n) c
          by (inl z) = omega (arith, count_most j n)
          by (inr z) = absurd (omega (arith, stops y, below (count j n) some z))

      no_least : ((i : ℕ) → 0 < i → R j.plan (j.accepted + i) ≤ j.taken)
          → (most_rows j n ≤ count j n) ⊎ (count j n < most_rows j n)
          → count j n ≡ most_rows j n
      no_least none (inl y) = omega (arith, count_most j n)
      no_least none (inr y) = absurd (omega (arith, stops y, none (count j n) some))

-- ---- ready
ready_of_lem : (p : Plan) (n : ℕ) (s : Seen) (work : List ℕ) → Inv p s work → n + s.taken ≡ R p s.accepted → Ready p (run_at p s work) n
ready_of_lem p zero s work v e = λ out lent b. take_refused p s work v out lent b (omega arith)
ready_of_lem p (suc n) s work v e = λ out lent b.
    let goes = take_succeeds p s work v out lent b (omega arith) in
    let o = took p s work v out lent goes in
    (goes, rw (take_leads p s work v out lent o) (ready_of_lem p n _ _ (take_kept p s work v out lent o) (omega arith)))

-- there are buffers of the right length
right_take : (p : Plan) (s : Seen) (work : List ℕ) → Inv p s work → RightTake p (run_at p s work) (replicate (row_bytes (lanes_of p) p.target.width) 0) (length work)
right_take p s work v = record { exact = length-replicate (row_bytes (lanes_of p) p.target.width) 0; room = rw (take-length work) v.room }

ready_only : (p : Plan) (n : ℕ) (s : Seen) (work : List ℕ) → Inv p s work → Ready p (run_at p s work) n → n + s.taken ≡ R p s.accepted
ready_only p zero s work v f = by (le_or_lt (R p s.accepted) s.taken)
  where
    by : (R p s.accepted ≤ s.taken) ⊎ (s.taken < R p s.accepted) → 0 + s.taken ≡ R p s.accepted
    by (inl h) = omega (arith, v.rules.high)
    by (inr h) =
        let b = right_take p s work v in
        absurd (omega (arith, f _ _ b, take_succeeds p s work v _ _ b h))
ready_only p (suc n) s work v f = by (ready_only p n) (le_or_lt (R p s.accepted) s.taken)
  where
    by : ((s : Seen) (work : List ℕ) → Inv p s work → Ready p (run_at p s work) n → n + s.taken ≡ R p s.accepted)
        → (R p s.accepted ≤ s.taken) ⊎ (s.taken < R p s.accepted) → suc n + s.taken ≡ R p s.accepted
    by ih (inl h) =
        let b = right_take p s work v in
        absurd (omega (arith, (f _ _ b).0, take_refused p s work v _ _ b h))
    by ih (inr h) =
        let b = right_take p s work v in
        let out : List ℕ = replicate (row_bytes (lanes_of p) p.target.width) 0 in
        let o = took p s work v out (length work) (take_succeeds p s work v _ _ b h) in
        let next : n + (s.taken + 1) ≡ R p s.accepted =
        ih _ _ (take_kept p s work v out (length work) o) (rw (take_leads p s work v out (length work) o) at (f _ _ b).1) in
        omega arith

-- the number that the call `ready` returns
ready_told : (p : Plan) (s : Seen) (work : List ℕ) → Inv p s work → Ready p (run_at p s work) (ready_of (job_at p s))
ready_told p s work v =
    let told = ready_some (job_at p s) (R p s.accepted) (rules_good p s.accepted s.taken s.flag v.rules) refl in
    ready_of_lem p (ready_of (job_at p s)) s work v (omega (arith, told, v.rules.high))

-- ---- the claim of whatever keeps the invariant
claimed : (p : Plan) (given : List ℕ) (s : Seen) (work : List ℕ) → Formed p → Inv p s work → RestStays p given work → Claim p given (run_at p s work)
claimed p given s work formed v rest =
    let bytes : ℕ → ℕ = λ i. get_or s.source i 0 in
    let top : R p s.accepted ≤ p.target.height = rows_most p.crop.y p.crop.height p.target.height v.rules.sizes.crop_height s.accepted in
    let row-of : (y : ℕ) → y < s.taken → get_or s.rows y [] ≡ row_of p (λ i. get_or s.source i 0) y = λ y l. v.handed (λ i. get_or s.source i 0) (λ i h. refl) y l in
    record {
      ready = (R p s.accepted - s.taken, ready_of_lem p (R p s.accepted - s.taken) s work v (omega (arith, v.rules.high)), omega (arith, v.rules.high));
      ready_only = λ n. ready_only p n s work v;
      ready_told = ready_told p s work v;
      take_goes = take_succeeds p s work v;
      take_none = take_refused p s work v;
      offer_goes = λ rows lent b e l.
          let le : R p s.accepted ≤ s.taken = omega arith in
          (offer_succeeds p s work v rows lent b le l, rw (rows_are p s work v rows lent b le l) (count_some (job_at p s) (length rows) (whole_rows p s work v rows lent b) le l));
      offer_count = λ rows lent b e l.
          let le : R p s.accepted ≤ s.taken = omega arith in
          rw (rows_are p s work v rows lent b le l) (count_smallest (job_at p s) (length rows) (whole_rows p s work v rows lent b) le l);
      offer_ready = offer_refused_ready p s work v;
      offer_all = λ rows lent b e l. offer_refused_all p s work v rows lent b (omega arith) l;
      wrong_rows = offer_three p s work v;
      offer_short = offer_five p s work v;
      wrong_out = take_four p s work v;
      take_short = take_five p s work v;
      offer_turned = offer_same p s work v;
      take_turned = take_same p s work v;
      bytes = v.bytes;
      in_source = v.rules.rows;
      in_schedule = v.rules.high;
      rest_stays = rest;
      handed = v.outs;
      contents = row-of;
      flag = v.flagged;
      near_alpha = λ kind premise y l i inside. rw (row-of y l) (picture_alpha p formed bytes y i inside v.rules.sizes (omega (arith, v.rules.high)) premise kind);
      near_colour = λ kind premise y l i inside. rw (row-of y l) (picture_colour p formed bytes y i inside v.rules.sizes (omega (arith, v.rules.high)) premise kind);
      near_plane = λ kind premise y l i inside. rw (row-of y l) (plane_byte p formed bytes y i inside v.rules.sizes (omega (arith, v.rules.high)) premise kind);
      whole = picture_whole p formed s work v;
      whole_flag = picture_flag_lem p formed s work v;
    }

-- DEMAND 3, an end in itself
pub demand_3 : Demand3
demand_3 = record {
  every_list = λ p work formed accepted calls.
      let k = run_kept p work calls (begun p work) (begun_kept p work formed accepted) in
      rw k.is (claimed p work k.seen k.work formed k.inv k.rest);
  some_list = some_list;
}
