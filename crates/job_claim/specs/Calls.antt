-- A list of calls from a fresh job, and what is counted from the calls and their answers, never read from the record (SCOPE, "The list of demand 3").
-- The answers are the definitions that stand in the contracts of start, offer and take. Assumes nothing.
use Rattle.std.specs.Prelude.{ℕ, ◌+◌, ◌*◌, Bool, false, cond, List, [], ◌∷◌, ◌++◌, ◌≡◌, eqb, length, take, drop}
use Rattle.pixels.specs.Sizes.{row_bytes}
use Rattle.job_rules.specs.declared.Plan.{Plan}
use Rattle.job_rules.specs.Rules.{lanes_of}
use Rattle.job.specs.declared.Job.{Job}
use Rattle.job.specs.Record.{fresh}
use Rattle.job.specs.Calls as job
use Rattle.job_start.specs.Start.{start_work}

-- An offer with its bytes, or a take with its output buffer; and how many of the work values are lent, all of them or a beginning. Bytes are numbers below
-- 256; the claim holds of any numbers.
pub data Call : Type 0 where
  Offer : List ℕ → ℕ → Call
  Take : List ℕ → ℕ → Call

-- What is counted: rows accepted and their bytes joined in order, rows taken, each as it was handed out, and the flag that the last of them came with.
pub record Seen : Type 0 where
  pub accepted : ℕ
  pub source : List ℕ
  pub taken : ℕ
  pub rows : List (List ℕ)
  pub flag : Bool

abbrev pub nothing : Seen
nothing = record { accepted = 0; source = []; taken = 0; rows = []; flag = false }

-- The record and the work values as the last call left them, and what was counted.
pub record Run : Type 0 where
  pub job : Job
  pub work : List ℕ
  pub seen : Seen

-- ---- answers

-- the number of the next offer or take, 0 where it succeeds, and the rows that an offer accepts
abbrev pub offer_number : Run → List ℕ → ℕ → ℕ
offer_number r rows lent = job.offer_number r.job (length rows) (length (take lent r.work))

abbrev pub offer_rows : Run → List ℕ → ℕ → ℕ
offer_rows r rows lent = job.offer_rows r.job (length rows) (length (take lent r.work))

abbrev pub take_number : Run → List ℕ → ℕ → ℕ
take_number r out lent = job.take_number r.job (length out) (length (take lent r.work))

-- the output buffer after the next take
abbrev pub take_out : Run → List ℕ → ℕ → List ℕ
take_out r out lent = job.take_out r.job out (take lent r.work)

-- ---- what is counted

-- "Accepted is the sum of the counts"; "The first rows of each accepting offer, as many as its count, joined in order"
abbrev pub seen_offer : Plan → Seen → List ℕ → ℕ → Seen
seen_offer p s rows count = record {
  accepted = s.accepted + count;
  source = s.source ++ take (row_bytes (lanes_of p) p.source.width * count) rows;
  taken = s.taken;
  rows = s.rows;
  flag = s.flag;
}

-- "Taken is the number of takes that succeeded"
abbrev pub seen_take : Seen → ℕ → List ℕ → Bool → Seen
seen_take s number out flag =
    cond (eqb number 0)
    (record { accepted = s.accepted; source = s.source; taken = s.taken + 1; rows = s.rows ++ (out ∷ []); flag = flag })
    s

-- ---- one call, given the record and the work values last left; and a list of them

unfoldable pub step : Plan → Run → Call → Run
step p r (Offer rows lent) =
    let part : List ℕ = take lent r.work in
    record {
      job = job.offer_job r.job (length rows) (length part);
      work = job.offer_work r.job rows part ++ drop lent r.work;
      seen = seen_offer p r.seen rows (offer_rows r rows lent);
    }
step p r (Take out lent) =
    let part : List ℕ = take lent r.work in
    record {
      job = job.take_job r.job (length out) part;
      work = job.take_work r.job (length out) part ++ drop lent r.work;
      seen = seen_take r.seen (take_number r out lent) (take_out r out lent) (job.take_job r.job (length out) part).flag;
    }

unfoldable pub run : Plan → Run → List Call → Run
run p r [] = r
run p r (call ∷ calls) = run p (step p r call) calls

-- "A fresh job is the record that an accepting start returned, with the work rows as start left them"
abbrev pub begun : Plan → List ℕ → Run
begun p work = record { job = fresh p; work = start_work p work; seen = nothing }

-- no call of the list is turned away
abbrev pub NoneRefused : Plan → Run → List Call → Type 0
NoneRefused p r [] = Unit {0}
NoneRefused p r (Offer rows lent ∷ calls) = (offer_number r rows lent ≡ 0) × NoneRefused p (step p r (Offer rows lent)) calls
NoneRefused p r (Take out lent ∷ calls) = (take_number r out lent ≡ 0) × NoneRefused p (step p r (Take out lent)) calls
