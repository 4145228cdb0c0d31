-- All jobs, some job, each job changed: what a loop over the jobs keeps, and what it says of one of them. Assumes nothing.
use Prim.Native.Nat.{ℕ, zero, suc, ◌≤◌, ◌<◌}
use mathlib.Core.Path.{◌≡◌, refl, sym, ◌∙◌, ap}
use mathlib.Core.List.{List}
use mathlib.Core.Bool.{Bool, true, false, ◌||◌, ◌&&◌}
use mathlib.Core.Logic.{⊎_elim}
use native.Mathlib.Omega.{arith}
use native.Mathlib.Nat.{eq-or-lt_of_le, le_of_suc-le-suc}
use native.Mathlib.Numerals.{add-one}
use lib.ListN.{length, set, take, length-set}
use lib.Seq.{get_or-set_same, get_or-set_other}
use Rattle.std.specs.List.{list_any, list_all}
use Rattle.std.proofs.lemmas.List.Folds.{list_any_more, list_all_more}
use Rattle.pixels.proofs.Truths.{both_true, neither_true}
use Rattle.job.specs.declared.Job.{Job}
use Rattle.group_rules.specs.Group.{spare, job_at, every, some, each_job}

-- ---- all of them
module _ (f : ℕ → Bool) where
  every_open : (i : ℕ) → every f (suc i) ≡ (every f i && f i)
  unfolding every
  every_open i = refl

  -- a loop's start, a turn of it, and the way out where one fails
  pub every_none : every f 0 ≡ true
  unfolding every
  every_none = refl

  pub every_more : (i : ℕ) → every f i ≡ true → f i ≡ true → every f (suc i) ≡ true
  every_more i e h = every_open i ∙ simp (e, h)

  pub every_one : (n i : ℕ) → every f n ≡ true → i < n → f i ≡ true
  every_one zero i e l = absurd (omega arith)
  every_one (suc n) i e l =
      let p = both_true (every f n) (f n) (sym (every_open n) ∙ e) in
      ⊎_elim (λ q. rw q p.1) (λ m. every_one n i p.0 m) (eq-or-lt_of_le (le_of_suc-le-suc l))

  pub every_of : (n : ℕ) → ((i : ℕ) → i < n → f i ≡ true) → every f n ≡ true
  every_of zero h = every_none
  every_of (suc n) h = every_more n (every_of n (λ i l. h i (omega arith))) (h n (omega arith))

  and_false : (a b : Bool) → b ≡ false → (a && b) ≡ false
  and_false true b e = e
  and_false false b e = refl

  pub every_not : (n i : ℕ) → i < n → f i ≡ false → every f n ≡ false
  every_not zero i l e = absurd (omega arith)
  every_not (suc n) i l e =
      every_open n
      ∙ ⊎_elim (λ q. and_false (every f n) (f n) (rw q at e)) (λ m. simp (every_not n i m e)) (eq-or-lt_of_le (le_of_suc-le-suc l))

-- ---- one of them
module _ (f : ℕ → Bool) where
  some_open : (i : ℕ) → some f (suc i) ≡ (some f i || f i)
  unfolding some
  some_open i = refl

  pub some_nothing : some f 0 ≡ false
  unfolding some
  some_nothing = refl

  pub some_more : (i : ℕ) → some f i ≡ false → f i ≡ false → some f (suc i) ≡ false
  some_more i e h = some_open i ∙ simp (e, h)

  pub some_none : (n i : ℕ) → some f n ≡ false → i < n → f i ≡ false
  some_none zero i e l = absurd (omega arith)
  some_none (suc n) i e l =
      let p = neither_true (some f n) (f n) (sym (some_open n) ∙ e) in
      ⊎_elim (λ q. rw q p.1) (λ m. some_none n i p.0 m) (eq-or-lt_of_le (le_of_suc-le-suc l))

  pub some_of : (n : ℕ) → ((i : ℕ) → i < n → f i ≡ false) → some f n ≡ false
  some_of zero h = some_nothing
  some_of (suc n) h = some_more n (some_of n (λ i l. h i (omega arith))) (h n (omega arith))

  or_right : (a b : Bool) → b ≡ true → (a || b) ≡ true
  or_right true b e = refl
  or_right false b e = e

  pub some_found : (n i : ℕ) → i < n → f i ≡ true → some f n ≡ true
  some_found zero i l e = absurd (omega arith)
  some_found (suc n) i l e =
      some_open n
      ∙ ⊎_elim (λ q. or_right (some f n) (f n) (rw q at e)) (λ m. simp (some_found n i m e)) (eq-or-lt_of_le (le_of_suc-le-suc l))

-- ---- what the library's tests of the first n jobs, n being m, answer
module _ (test : Job → Bool) (js : List Job) where
  any_is : (n : ℕ) → n ≤ length js → list_any test (take n js) ≡ some (λ i. test (job_at js i)) n
  unfolding some
  any_is zero l = refl
  any_is (suc n) l = rw (sym (add-one n)) (list_any_more test js n spare (omega arith)) ∙ ap (λ (b : Bool). b || test (job_at js n)) (any_is n (omega arith))

  all_is : (n : ℕ) → n ≤ length js → list_all test (take n js) ≡ every (λ i. test (job_at js i)) n
  unfolding every
  all_is zero l = refl
  all_is (suc n) l = rw (sym (add-one n)) (list_all_more test js n spare (omega arith)) ∙ ap (λ (b : Bool). b && test (job_at js n)) (all_is n (omega arith))

  pub any_tells : (n m : ℕ) (b : Bool) → n ≡ m → m ≤ length js → b ≡ list_any test (take n js) → b ≡ some (λ i. test (job_at js i)) m
  any_tells n m b e l h = h ∙ rw e (any_is m l)

  pub all_tells : (n m : ℕ) (b : Bool) → n ≡ m → m ≤ length js → b ≡ list_all test (take n js) → b ≡ every (λ i. test (job_at js i)) m
  all_tells n m b e l h = h ∙ rw e (all_is m l)

-- ---- each of them changed
module _ (f : Job → Job) where
  pub jobs_none : (js : List Job) → each_job f 0 js ≡ js
  unfolding each_job
  jobs_none js = refl

  each_next : (i : ℕ) (js : List Job) → each_job f (suc i) js ≡ set (each_job f i js) i (f (job_at js i))
  unfolding each_job
  each_next i js = refl

  -- a turn of a loop that changes each job
  pub jobs_next : (js : List Job) (i : ℕ) (now : List Job) (j : Job) → now ≡ each_job f i js → j ≡ f (job_at js i) → set now i j ≡ each_job f (suc i) js
  unfolding each_job
  jobs_next js i now j e h = rw (e, h)

  pub jobs_long : (n : ℕ) (js : List Job) → length (each_job f n js) ≡ length js
  jobs_long zero js = rw (jobs_none js)
  jobs_long (suc n) js = ap length (each_next n js) ∙ length-set (each_job f n js) n (f (job_at js n)) ∙ jobs_long n js

  -- those from n on are as they were
  pub job_beyond : (n k : ℕ) (js : List Job) → n ≤ k → job_at (each_job f n js) k ≡ job_at js k
  job_beyond zero k js l = rw (jobs_none js)
  job_beyond (suc n) k js l =
      ap (λ (x : List Job). job_at x k) (each_next n js)
      ∙ get_or-set_other (each_job f n js) n k (f (job_at js n)) spare (omega arith)
      ∙ job_beyond n k js (omega arith)

  pub job_changed : (n k : ℕ) (js : List Job) → n ≤ length js → k < n → job_at (each_job f n js) k ≡ f (job_at js k)
  job_changed zero k js h l = absurd (omega arith)
  job_changed (suc n) k js h l =
      ap (λ (x : List Job). job_at x k) (each_next n js)
      ∙ ⊎_elim
      (λ q. rw q (get_or-set_same (each_job f n js) n (f (job_at js n)) spare (rw (jobs_long n js) (omega arith))))
      (λ m. get_or-set_other (each_job f n js) n k (f (job_at js n)) spare (omega arith) ∙ job_changed n k js (omega arith) m)
      (eq-or-lt_of_le (le_of_suc-le-suc l))
