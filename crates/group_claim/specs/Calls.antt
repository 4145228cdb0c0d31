-- A list of a group's calls, and for each job the list of calls that it has alone (SCOPE, "Groups"). The answers are the definitions that stand in the contracts of
-- start_group, offer_group and take_group. Assumes nothing.
use Rattle.std.specs.Prelude.{ℕ, cond, ◌&&◌, List, [], ◌∷◌, ◌++◌, eqb, length, take, drop}
use Rattle.job_rules.specs.declared.Plan.{Plan}
use Rattle.job_claim.specs.Calls.{Call, Offer, Take, Seen, Run, nothing, seen_offer, seen_take}
use Rattle.group_parts.specs.Parts.{part_at}
use Rattle.group_rules.specs.declared.Group.{Group}
use Rattle.group_rules.specs.Group.{job_at, plan_at, needs}
use Rattle.group_rules.specs.Tests.{group_offer_number, group_take_number}
use Rattle.group.specs.Calls.{group_offer_rows, fed_rows, group_offered, group_offer_work, group_taken, group_take_out, group_take_work}
use Rattle.group_start.specs.Start.{group_started, group_start_work}

-- An offer to all jobs with its bytes, or a take that names a job, with its output buffer; and how many of the work values are lent, all of them or a
-- beginning.
pub data GroupCall : Type 0 where
  OfferAll : List ℕ → ℕ → GroupCall
  TakeOf : ℕ → List ℕ → ℕ → GroupCall

-- The record and the work values as the last call left them, and what was counted of each job: from the calls and their answers. Only the length of a source row is
-- read from the record, of the plan, which no call changes.
pub record GroupRun : Type 0 where
  pub group : Group
  pub work : List ℕ
  pub seen : ℕ → Seen

-- ---- answers: the number of the next offer or take, 0 where it succeeds; the rows that an offer accepts, the output buffer after a take

abbrev pub offer_number : GroupRun → List ℕ → ℕ → ℕ
offer_number r rows lent = group_offer_number r.group (length rows) (length (take lent r.work))

abbrev pub offer_rows : GroupRun → List ℕ → ℕ → ℕ
offer_rows r rows lent = group_offer_rows r.group (length rows) (length (take lent r.work))

abbrev pub take_number : GroupRun → ℕ → List ℕ → ℕ → ℕ
take_number r k out lent = group_take_number r.group k (length out) (length (take lent r.work))

abbrev pub take_out : GroupRun → ℕ → List ℕ → ℕ → List ℕ
take_out r k out lent = group_take_out r.group k out (take lent r.work)

-- ---- one call, and a list of them

-- a take counts for the job that it names
unfoldable pub group_step : GroupRun → GroupCall → GroupRun
group_step r (OfferAll rows lent) =
    let part : List ℕ = take lent r.work in
    record {
      group = group_offered r.group (length rows) (length part);
      work = group_offer_work r.group rows part ++ drop lent r.work;
      seen = λ i. seen_offer (plan_at r.group.jobs i) (r.seen i) rows (offer_rows r rows lent);
    }
group_step r (TakeOf k out lent) =
    let part : List ℕ = take lent r.work in
    let next : Group = group_taken r.group k (length out) part in
    record {
      group = next;
      work = group_take_work r.group k (length out) part ++ drop lent r.work;
      seen = λ i. cond (eqb i k) (seen_take (r.seen i) (take_number r k out lent) (take_out r k out lent) (job_at next.jobs k).flag) (r.seen i);
    }

unfoldable pub group_run : GroupRun → List GroupCall → GroupRun
group_run r [] = r
group_run r (call ∷ calls) = group_run (group_step r call) calls

-- a group as its start left it
abbrev pub group_begun : List Plan → ℕ → List ℕ → GroupRun
group_begun plans count work =
    record { group = group_started plans count (length work); work = group_start_work plans count work; seen = λ i. nothing }

-- ---- a job of the group as a job alone

-- its record, its part of the work values, what was counted of it
abbrev pub alone : ℕ → GroupRun → Run
alone i r = record { job = job_at r.group.jobs i; work = part_at (needs r.group.jobs) i r.work; seen = r.seen i }

-- The calls that job i has alone: each accepting offer is an offer of exactly the rows accepted, each succeeding take that names it a take. Calls that are turned away
-- are dropped.
unfoldable pub called : ℕ → GroupRun → GroupCall → List Call
called i r (OfferAll rows lent) =
    cond (eqb (offer_number r rows lent) 0) (Offer (fed_rows r.group rows) (needs r.group.jobs i) ∷ []) []
called i r (TakeOf k out lent) =
    cond (eqb (take_number r k out lent) 0 && eqb i k) (Take out (needs r.group.jobs i) ∷ []) []

unfoldable pub calls_of : ℕ → GroupRun → List GroupCall → List Call
calls_of i r [] = []
calls_of i r (call ∷ calls) = called i r call ++ calls_of i (group_step r call) calls
