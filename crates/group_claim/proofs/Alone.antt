-- A job alone that is lent exactly its work values, and lists of its calls. Assumes nothing.
use Prim.Native.Nat.{ℕ, ◌+◌, ◌*◌}
use mathlib.Core.Path.{◌≡◌, refl, ◌∙◌, ap, ap₂}
use mathlib.Core.List.{List, [], ◌∷◌, ◌++◌, append-nil}
use mathlib.Core.Logic.{⊎_elim}
use native.Mathlib.Omega.{arith}
use native.Mathlib.Nat.{mul-zero}
use lib.ListN.{length, take, drop, drop_of_length-le}
use lib.Seq.{take_all}
use borrow.Author.Tests.{eq-eqb}
use Rattle.pixels.specs.Sizes.{row_bytes}
use Rattle.job_rules.specs.declared.Plan.{Plan}
use Rattle.job_rules.specs.Rules.{lanes_of}
use Rattle.job.specs.declared.Job.{Job}
use Rattle.job.specs.Calls as job
use Rattle.job.proofs.Views.{take_view}
use Rattle.job_claim.specs.Calls.{Call, Offer, Take, Seen, Run, seen_offer, seen_take, step, run}
use Rattle.group_claim.specs.Claim.{AllGo}
use Rattle.job_claim.proofs.Taking.{left_length}

pub same_run : (a b : Run) → a.job ≡ b.job → a.work ≡ b.work → a.seen ≡ b.seen → a ≡ b
same_run a b e f g =
    ap₂ (λ (x : Job) (y : List ℕ). record { job = x; work = y; seen = a.seen }) e f
    ∙ ap (λ (z : Seen). record { job = b.job; work = b.work; seen = z }) g

-- ---- a take keeps the length of the work values
pub take_length : (j : Job) (out w : List ℕ) → length (job.take_work j (length out) w) ≡ length w
take_length j out w = ⊎_elim (λ t. ap length t.kept) (λ q. ap length q.work_after ∙ left_length j w q.room) (take_view j out w)

-- ---- an offer that goes through
pub offer_rows_is : (j : Job) (n w : ℕ) → job.offer_number j n w ≡ 0 → job.offer_rows j n w ≡ job.count j n
unfolding job.offer_rows
offer_rows_is j n w e = simp (eq-eqb (job.offer_number j n w) 0 e)

pub offer_job_is : (j : Job) (n w : ℕ) → job.offer_number j n w ≡ 0 → job.offer_job j n w ≡ job.more_accepted j (job.count j n)
unfolding job.offer_job
offer_job_is j n w e = simp (eq-eqb (job.offer_number j n w) 0 e)

-- ---- what is counted of an offer
pub seen_none : (p : Plan) (s : Seen) (rows : List ℕ) (c : ℕ) → c ≡ 0 → seen_offer p s rows c ≡ s
seen_none p s rows c e =
    let a : s.accepted + c ≡ s.accepted = omega arith in
    let w : ℕ = row_bytes (lanes_of p) p.source.width in
    let z : row_bytes (lanes_of p) p.source.width * c ≡ 0 = ap (λ (t : ℕ). row_bytes (lanes_of p) p.source.width * t) e ∙ mul-zero w in
    rw (a, z, append-nil s.source) refl

pub seen_same : (p : Plan) (s : Seen) (rows fed : List ℕ) (c d : ℕ) → c ≡ d
    → take (row_bytes (lanes_of p) p.source.width * c) rows ≡ take (row_bytes (lanes_of p) p.source.width * c) fed
    → seen_offer p s rows c ≡ seen_offer p s fed d
seen_same p s rows fed c d e f =
    ap (λ (z : List ℕ). record { accepted = s.accepted + c; source = s.source ++ z; taken = s.taken; rows = s.rows; flag = s.flag }) f
    ∙ ap (λ (x : ℕ). seen_offer p s fed x) e

-- ---- lent all its work values
module _ (p : Plan) (r : Run) (k : ℕ) (long : length r.work ≡ k) where
  all : take k r.work ≡ r.work
  all = take_all k r.work (omega arith)

  none : drop k r.work ≡ []
  none = drop_of_length-le r.work {i = k} (omega arith)

  abbrev pub offered : List ℕ → Run
  offered rows = record {
    job = job.offer_job r.job (length rows) k;
    work = job.offer_work r.job rows r.work;
    seen = seen_offer p r.seen rows (job.offer_rows r.job (length rows) k);
  }

  abbrev pub taken : List ℕ → Run
  taken out = record {
    job = job.take_job r.job (length out) r.work;
    work = job.take_work r.job (length out) r.work;
    seen = seen_take r.seen (job.take_number r.job (length out) (length r.work)) (job.take_out r.job out r.work) (job.take_job r.job (length out) r.work).flag;
  }

  pub offer_alone : (rows : List ℕ) → step p r (Offer rows k) ≡ offered rows
  unfolding step
  offer_alone rows = rw (all, none, append-nil (job.offer_work r.job rows r.work), long)

  pub take_alone : (out : List ℕ) → step p r (Take out k) ≡ taken out
  unfolding step
  take_alone out = rw (all, none, append-nil (job.take_work r.job (length out) r.work))

-- ---- lists of calls
pub run_none : (p : Plan) (r : Run) → run p r [] ≡ r
unfolding run
run_none p r = refl

pub run_one : (p : Plan) (r : Run) (c : Call) → run p r (c ∷ []) ≡ step p r c
unfolding run
run_one p r c = refl

pub run_append : (p : Plan) (r : Run) (xs ys : List Call) → run p r (xs ++ ys) ≡ run p (run p r xs) ys
unfolding run
run_append p r [] ys = refl
run_append p r (x ∷ xs) ys = run_append p (step p r x) xs ys

pub all_go_append : (p : Plan) (r : Run) (xs ys : List Call) → AllGo p r xs → AllGo p (run p r xs) ys → AllGo p r (xs ++ ys)
unfolding run
all_go_append p r [] ys a b = b
all_go_append p r (Offer rows lent ∷ xs) ys a b = (a.0, a.1, all_go_append p (step p r (Offer rows lent)) xs ys a.2 b)
all_go_append p r (Take out lent ∷ xs) ys a b = (a.0, all_go_append p (step p r (Take out lent)) xs ys a.1 b)
