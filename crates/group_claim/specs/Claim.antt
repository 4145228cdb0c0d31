-- THE THEOREM OF GROUPS: one claim about every list of a group's calls, to be read beside SCOPE, "Groups". proofs/Theorem.antt proves it. Assumes nothing.
use Rattle.std.specs.Prelude.{ℕ, ◌+◌, ◌*◌, ◌-◌, ◌/◌, ◌%◌, ◌≤◌, ◌<◌, min, ◌≡◌, List, [], ◌∷◌, length, take, drop}
use Rattle.pixels.specs.Sizes.{row_bytes}
use Rattle.job_rules.specs.declared.Plan.{Plan}
use Rattle.job_rules.specs.Rules.{lanes_of, R}
use Rattle.job_claim.specs.Calls as alone-calls
use Rattle.job_claim.specs.Calls.{Call, Offer, Take, Run, begun, step, run}
use Rattle.job_claim.specs.Claim.{Claim, WrongRows}
use Rattle.group_parts.specs.Parts.{part_at}
use Rattle.group_rules.specs.Group.{spare, job_at, plan_at, needs, total, group_of}
use Rattle.group_rules.specs.Tests.{group_start_number}
use Rattle.group.specs.Calls.{group_ready}
use Rattle.group_claim.specs.Calls.{GroupCall, OfferAll, TakeOf, GroupRun, group_run, group_step, group_begun, alone, calls_of, offer_number, offer_rows, take_number, take_out}

-- ---- the jobs of a group that was started

-- the plan of each, as its own start would form it, and its part of the work values as they were lent to start
abbrev pub plan_in : List Plan → ℕ → ℕ → Plan
plan_in plans count i = plan_at (group_of plans count).jobs i

abbrev pub part_in : List Plan → ℕ → List ℕ → ℕ → List ℕ
part_in plans count work i = part_at (needs (group_of plans count).jobs) i work

-- ---- one job after a list of calls: everything that it would be alone

-- no call of a job's list is turned away, and each offer accepts every row that it is lent
abbrev pub AllGo : Plan → Run → List Call → Type 0
AllGo p r [] = Unit {0}
AllGo p r (Offer rows lent ∷ calls) =
    (alone-calls.offer_number r rows lent ≡ 0)
    × (row_bytes (lanes_of p) p.source.width * alone-calls.offer_rows r rows lent ≡ length rows)
    × AllGo p (step p r (Offer rows lent)) calls
AllGo p r (Take out lent ∷ calls) = (alone-calls.take_number r out lent ≡ 0) × AllGo p (step p r (Take out lent)) calls

pub record AsAlone (plans : List Plan) (count : ℕ) (work : List ℕ) (calls : List GroupCall) (i : ℕ) : Type 0 where
  -- its record, its part of the work values and the rows that it handed out are those of the job alone, started with its own part, after its own list of calls
  pub same : alone i (group_run (group_begun plans count work) calls)
      ≡ run (plan_in plans count i) (begun (plan_in plans count i) (part_in plans count work i)) (calls_of i (group_begun plans count work) calls)
  -- all of which go through
  pub all_go : AllGo (plan_in plans count i) (begun (plan_in plans count i) (part_in plans count work i)) (calls_of i (group_begun plans count work) calls)
  -- so that all of demand 3 holds of it: rows ready, calls that succeed, bytes and flag, the distance to the exact mean
  pub claim : Claim (plan_in plans count i) (part_in plans count work i) (alone i (group_run (group_begun plans count work) calls))

-- ---- the group itself after a list of calls; p is the plan of any of its jobs, n how many there are

-- "Buffers have the right length when 3, 4 and 5 don't apply": 5 compares with the sum of all needs
pub record RightOffer (plans : List Plan) (count : ℕ) (r : GroupRun) (rows : List ℕ) (lent : ℕ) : Type 0 where
  pub some : 0 < length rows
  pub whole : length rows % row_bytes (lanes_of (plan_in plans count 0)) (plan_in plans count 0).source.width ≡ 0
  pub room : total (group_of plans count).jobs count ≤ length (take lent r.work)

pub record RightTake (plans : List Plan) (count : ℕ) (r : GroupRun) (k : ℕ) (out : List ℕ) (lent : ℕ) : Type 0 where
  pub exact : length out ≡ row_bytes (lanes_of (plan_in plans count k)) (plan_in plans count k).target.width
  pub room : total (group_of plans count).jobs count ≤ length (take lent r.work)

-- "too short a beginning of the work rows"
abbrev pub ShortWork : List Plan → ℕ → GroupRun → ℕ → Type 0
ShortWork plans count r lent = length (take lent r.work) < total (group_of plans count).jobs count

-- nothing moved
pub record Same (r s : GroupRun) : Type 0 where
  pub group : r.group ≡ s.group
  pub work : r.work ≡ s.work
  pub seen : (i : ℕ) → r.seen i ≡ s.seen i

-- job i has a row ready once so many rows are accepted, of those taken from it so far
abbrev pub Ready : List Plan → ℕ → GroupRun → ℕ → ℕ → Type 0
Ready plans count r k i = (r.seen i).taken < R (plan_in plans count i) k

-- "no job has one ready"
abbrev pub NoneReady : List Plan → ℕ → GroupRun → ℕ → Type 0
NoneReady plans count r k = (i : ℕ) → i < count → R (plan_in plans count i) k ≤ (r.seen i).taken

-- some job has
abbrev pub SomeReady : List Plan → ℕ → GroupRun → ℕ → Type 0
SomeReady plans count r k = (i : ℕ) × (i < count) × Ready plans count r k i

-- "the smallest of the rows lent, those remaining and the least c for which SOME job's R(k + c) is above its taken", c from 1 up, if there is one
pub record Smallest (plans : List Plan) (count : ℕ) (r : GroupRun) (lent remaining rows : ℕ) : Type 0 where
  pub with_least : (c : ℕ) → 0 < c → SomeReady plans count r ((r.seen 0).accepted + c)
      → ((i : ℕ) → 0 < i → i < c → NoneReady plans count r ((r.seen 0).accepted + i))
      → rows ≡ min (min lent remaining) c
  pub with_none : ((i : ℕ) → 0 < i → NoneReady plans count r ((r.seen 0).accepted + i)) → rows ≡ min lent remaining

pub record GroupClaim (plans : List Plan) (count : ℕ) (work : List ℕ) (r : GroupRun) : Type 0 where
  -- the record holds as many jobs as were asked for, and what stands beyond them stays
  pub count_stays : r.group.count ≡ count
  pub beyond_stays : (k : ℕ) → count ≤ k → job_at r.group.jobs k ≡ spare
  -- all jobs have accepted equally many rows
  pub together : (i : ℕ) → i < count → (r.seen i).accepted ≡ (r.seen 0).accepted
  -- the next offer with right buffers accepts exactly when no job has a row ready and source rows remain, and how many; it is otherwise 7 while one is ready, else 8
  pub offer_goes : (rows : List ℕ) (lent : ℕ) → RightOffer plans count r rows lent → NoneReady plans count r (r.seen 0).accepted
      → (r.seen 0).accepted < (plan_in plans count 0).source.height → (offer_number r rows lent ≡ 0) × (0 < offer_rows r rows lent)
  pub offer_count : (rows : List ℕ) (lent : ℕ) → RightOffer plans count r rows lent → NoneReady plans count r (r.seen 0).accepted
      → (r.seen 0).accepted < (plan_in plans count 0).source.height
      → Smallest plans count r (length rows / row_bytes (lanes_of (plan_in plans count 0)) (plan_in plans count 0).source.width) ((plan_in plans count 0).source.height - (r.seen 0).accepted) (offer_rows r rows lent)
  pub offer_ready : (rows : List ℕ) (lent : ℕ) → RightOffer plans count r rows lent → SomeReady plans count r (r.seen 0).accepted → offer_number r rows lent ≡ 7
  pub offer_all : (rows : List ℕ) (lent : ℕ) → RightOffer plans count r rows lent → NoneReady plans count r (r.seen 0).accepted
      → (plan_in plans count 0).source.height ≤ (r.seen 0).accepted → offer_number r rows lent ≡ 8
  -- the rows ready that the group tells of job k, and those taken, are R(accepted); of a job that it lacks it tells none
  pub ready_told : (k : ℕ) → k < count → group_ready r.group k + (r.seen k).taken ≡ R (plan_in plans count k) (r.seen k).accepted
  pub ready_lacking : (k : ℕ) → count ≤ k → group_ready r.group k ≡ 0
  -- a take of job k with right buffers succeeds exactly when that job has a row ready, and is otherwise 9; of a job that the group lacks it is 13
  pub take_goes : (k : ℕ) (out : List ℕ) (lent : ℕ) → k < count → RightTake plans count r k out lent → Ready plans count r (r.seen k).accepted k → take_number r k out lent ≡ 0
  pub take_none : (k : ℕ) (out : List ℕ) (lent : ℕ) → k < count → RightTake plans count r k out lent → R (plan_in plans count k) (r.seen k).accepted ≤ (r.seen k).taken → take_number r k out lent ≡ 9
  pub take_lacking : (k : ℕ) (out : List ℕ) (lent : ℕ) → count ≤ k → take_number r k out lent ≡ 13
  -- with a buffer of another length a call gets 3, 4 or 5: an offer 3 ahead of 5, a take 4 ahead of 5
  pub wrong_rows : (rows : List ℕ) (lent : ℕ) → WrongRows (plan_in plans count 0) rows → offer_number r rows lent ≡ 3
  pub offer_short : (rows : List ℕ) (lent : ℕ) → (WrongRows (plan_in plans count 0) rows → ⊥) → ShortWork plans count r lent → offer_number r rows lent ≡ 5
  pub wrong_out : (k : ℕ) (out : List ℕ) (lent : ℕ) → k < count
      → (length out ≡ row_bytes (lanes_of (plan_in plans count k)) (plan_in plans count k).target.width → ⊥) → take_number r k out lent ≡ 4
  pub take_short : (k : ℕ) (out : List ℕ) (lent : ℕ) → k < count
      → length out ≡ row_bytes (lanes_of (plan_in plans count k)) (plan_in plans count k).target.width → ShortWork plans count r lent → take_number r k out lent ≡ 5
  -- a call that is turned away, with whatever number, leaves the record, the work values and what was counted, and a take its output buffer
  pub offer_turned : (rows : List ℕ) (lent : ℕ) → (offer_number r rows lent ≡ 0 → ⊥) → Same (group_step r (OfferAll rows lent)) r
  pub take_turned : (k : ℕ) (out : List ℕ) (lent : ℕ) → (take_number r k out lent ≡ 0 → ⊥) → Same (group_step r (TakeOf k out lent)) r × (take_out r k out lent ≡ out)
  -- the work values beyond the parts are as they were lent to start
  pub as_many : length r.work ≡ length work
  pub rest_stays : drop (total (group_of plans count).jobs count) r.work ≡ drop (total (group_of plans count).jobs count) work

-- ---- for every accepting start of a group and every list of calls, refused ones included
pub record GroupTheorem : Type 0 where
  pub each : (plans : List Plan) (count : ℕ) (work : List ℕ) → group_start_number plans count (length work) ≡ 0
      → (calls : List GroupCall) (i : ℕ) → i < count → AsAlone plans count work calls i
  pub all : (plans : List Plan) (count : ℕ) (work : List ℕ) → group_start_number plans count (length work) ≡ 0
      → (calls : List GroupCall) → GroupClaim plans count work (group_run (group_begun plans count work) calls)
