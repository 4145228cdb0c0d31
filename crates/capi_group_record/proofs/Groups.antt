-- A group written into words and read back is that group, with the record of zeros beyond its count, and the words of a legal group are the ones that it is written
-- as: neither way loses anything. What the loops over plans and jobs keep. Assumes nothing.
use Rattle.std.specs.Prelude.{Option, Some, None}
use Prim.Native.Nat.{ℕ, zero, suc, ◌+◌, ◌*◌, ◌-◌, ◌≤◌, ◌<◌}
use mathlib.Core.Path.{◌≡◌, refl, sym, ap, ◌∙◌}
use mathlib.Core.Bool.{Bool, true, false, cond, not, ◌&&◌, true≢false}
use mathlib.Core.List.{List, [], ◌∷◌, ◌++◌, append-nil}
use mathlib.Core.Logic.{⊎_elim}
use native.Mathlib.Omega.{arith}
use native.Mathlib.Numerals.{add-one}
use native.Mathlib.Nat.{eq-or-lt_of_le, le_of_suc-le-suc, mul-le-mul_left}
use lib.Dec.{leb}
use lib.ListN.{length, get_or, take, drop, set, replicate, length-set, length-append, drop_of_length-le, take-append-drop, get_or-eq_default}
use lib.Seq.{get_or-set_same, get_or-set_other, take_all, drop_at, drop-cons, drop-set-lt, take-add, drop-drop}
use borrow.Author.Tests.{leb-true, ltb-false, not-true, le-leb, lt-leb, lt-ltb, le-ltb}
use borrow.Rule.Slice.PartMut.{put_mid, same_len_mid}
use Rattle.arithmetic.proofs.Stretches.{stretch}
use Rattle.pixels.proofs.Truths.{both_true}
use Rattle.job_rules.specs.declared.Plan.{Plan}
use Rattle.job.specs.declared.Job.{Job}
use Rattle.job.specs.Record.{fresh}
use Rattle.group_parts.proofs.Cutting.{part_long, part_append}
use Rattle.group_rules.specs.declared.Group.{Group}
use Rattle.group_rules.specs.Group.{group_limit, spare, job_at, every, too_many, looked}
use Rattle.group_rules.proofs.Jobs.{every_none, every_more, every_one, every_of, every_not}
use Rattle.capi_words.specs.Words.{is_layout}
use Rattle.capi_words.proofs.Words.{stored_enough, stored_short}
use Rattle.capi_record.specs.Record.{is_kind, record_length, record_words, words_job, words_legal, told_by, stored_job}
use Rattle.capi_record.proofs.Records.{job_told, none_told, job_legal, none_legal, words_legal_lem, read_written, written_read}
use Rattle.capi_group_record.specs.GroupRecord.{plan_length, plan_of_words, plan_legal, plan_words, told_plan, group_length, plans_legal, plans_of, told_plans, job_words, count_word, group_legal, jobs_by, group_by, words_group, told_group, jobs_words, group_words, stored_group, counted}

-- ---- words cut as the code cuts them
pub cut : (a k : ℕ) (w : List ℕ) → take (a + k - a) (drop a w) ≡ take k (drop a w)
cut a k w =
    let d : a + k - a ≡ k = omega arith in
    ap (λ (x : ℕ). take x (drop a w)) d

-- ---- the plans of a start
-- what one plan's words tell, as the record of a fresh job
pub plan_told : (words : List ℕ)
    → told_by
    (get_or words 0 0 ∷ get_or words 1 0 ∷ get_or words 2 0 ∷ get_or words 3 0 ∷ get_or words 4 0 ∷ get_or words 5 0 ∷ get_or words 6 0 ∷ get_or words 7 0 ∷ get_or words 8 0 ∷ 0 ∷ 0 ∷ 0 ∷ get_or words 9 0 ∷ get_or words 10 0 ∷ [])
    ≡ told_plan words
unfolding words_legal words_job plan_legal plan_of_words
plan_told words =
    ap (λ (b : Bool). cond b (Some (fresh (plan_of_words words))) None) (unflagged (is_layout (get_or words 2 0)) (is_kind (get_or words 9 0)))
  where
    unflagged : (x y : Bool) → (true && x && y && true) ≡ (x && y)
    unflagged true true = refl
    unflagged true false = refl
    unflagged false y = refl

pub record PlansRead (words : List ℕ) (i : ℕ) (got : List Plan) : Type 0 where
  pub legal : every (λ k. plan_legal (plan_words words k)) i ≡ true
  pub plans : got ≡ plans_of words i

pub plans_first : (words : List ℕ) (none : Job) → none ≡ spare → PlansRead words 0 (replicate group_limit none.plan)
unfolding plans_of
plans_first words none e = record { legal = every_none _; plans = ap (λ (j : Job). replicate group_limit j.plan) e }

plans_next : (words : List ℕ) (i : ℕ) (ps : List Plan) (p : Plan) → ps ≡ plans_of words i → plan_of_words (plan_words words i) ≡ p → set ps i p ≡ plans_of words (suc i)
unfolding plans_of
plans_next words i ps p e h = rw (e, ← h)

-- what plan i's words tell, as the code cuts them
module _ (words : List ℕ) (i : ℕ) {t : Option Job} (e : t ≡ told_plan (take (plan_length * i + plan_length - plan_length * i) (drop (plan_length * i) words))) where
  told_here : t ≡ told_plan (plan_words words i)
  told_here = e ∙ ap (λ (w : List ℕ). told_plan w) (cut (plan_length * i) plan_length words)

  pub plan_here : (j : Job) → t ≡ Some j → (plan_legal (plan_words words i) ≡ true) × (plan_of_words (plan_words words i) ≡ j.plan)
  plan_here j h =
      let p = job_told (plan_legal (plan_words words i)) (fresh (plan_of_words (plan_words words i))) j (sym told_here ∙ h) in
      (p.0, ap (λ (k : Job). k.plan) p.1)

  pub no_plan_here : t ≡ None → plan_legal (plan_words words i) ≡ false
  no_plan_here h = none_told (plan_legal (plan_words words i)) (fresh (plan_of_words (plan_words words i))) (sym told_here ∙ h)

pub plans_more : (words : List ℕ) (i : ℕ) (got : List Plan) (p : Plan) → PlansRead words i got
    → (plan_legal (plan_words words i) ≡ true) × (plan_of_words (plan_words words i) ≡ p)
    → PlansRead words (i + 1) (set got i p)
plans_more words i got p v h = record {
  legal = rw (add-one i) (every_more _ i v.legal h.0);
  plans = rw (add-one i) (plans_next words i got p v.plans h.1);
}

-- each way out of the loop, and before it
module _ (words : List ℕ) (count lent n : ℕ) (s : n ≡ looked count) where
  none_read : plans_legal words n lent ≡ false → None ≡ told_plans words count lent
  none_read f = simp (rw s at f)

  pub few_words : length words < plan_length * n → None ≡ told_plans words count lent
  unfolding plans_legal
  few_words h = none_read (simp (lt-leb (plan_length * n) (length words) h))

  pub few_lent : plan_length * n ≤ length words → lent < group_length n → None ≡ told_plans words count lent
  unfolding plans_legal
  few_lent h k = none_read (simp (le-leb (plan_length * n) (length words) h, lt-leb (group_length n) lent k))

  pub plan_not : plan_length * n ≤ length words → group_length n ≤ lent → (i : ℕ) → i < n → plan_legal (plan_words words i) ≡ false → None ≡ told_plans words count lent
  unfolding plans_legal
  plan_not h k i l f =
      let x = every_not (λ m. plan_legal (plan_words words m)) n i l f in
      none_read (simp (le-leb (plan_length * n) (length words) h, le-leb (group_length n) lent k, x))

  legal_plans : plan_length * n ≤ length words → group_length n ≤ lent → every (λ m. plan_legal (plan_words words m)) n ≡ true → plans_legal words n lent ≡ true
  unfolding plans_legal
  legal_plans h k x = simp (le-leb (plan_length * n) (length words) h, le-leb (group_length n) lent k, x)

  pub plans_read : (i : ℕ) (got : List Plan) → plan_length * n ≤ length words → group_length n ≤ lent → PlansRead words i got → i ≡ n → Some got ≡ told_plans words count lent
  plans_read i got h k v q =
      let x = legal_plans h k (rw q at v.legal) in
      rw v.plans (rw q (rw s (simp (rw s at x))))

-- ---- the group's record
pub record GroupRead (words : List ℕ) (n i : ℕ) (g : Group) : Type 0 where
  pub count : g.count ≡ n
  pub legal : every (λ k. words_legal (job_words words k)) i ≡ true
  pub jobs : g.jobs ≡ jobs_by (λ k. words_job (job_words words k)) i

pub group_first_lem : (words : List ℕ) (n : ℕ) (none : Job) → none ≡ spare → GroupRead words n 0 (record { count = n; jobs = replicate group_limit none })
unfolding jobs_by
group_first_lem words n none e = record { count = refl; legal = every_none _; jobs = ap (replicate group_limit) e }

jobs_by_next : (f : ℕ → Job) (i : ℕ) (js : List Job) (j : Job) → js ≡ jobs_by f i → f i ≡ j → set js i j ≡ jobs_by f (suc i)
unfolding jobs_by
jobs_by_next f i js j e h = rw (e, ← h)

-- what job i's words tell, as the code cuts them
module _ (words : List ℕ) (i : ℕ) {t : Option Job} (e : t ≡ told_by (take (group_length i + record_length - group_length i) (drop (group_length i) words))) where
  job_read_here : t ≡ told_by (job_words words i)
  job_read_here = e ∙ ap (λ (w : List ℕ). told_by w) (cut (group_length i) record_length words)

  pub job_here : (j : Job) → t ≡ Some j → (words_legal (job_words words i) ≡ true) × (words_job (job_words words i) ≡ j)
  job_here j h = job_legal (job_words words i) j (sym job_read_here ∙ h)

  pub no_job_here : t ≡ None → words_legal (job_words words i) ≡ false
  no_job_here h = none_legal (job_words words i) (sym job_read_here ∙ h)

pub group_more : (words : List ℕ) (n i : ℕ) (g : Group) (j : Job) → GroupRead words n i g
    → (words_legal (job_words words i) ≡ true) × (words_job (job_words words i) ≡ j)
    → GroupRead words n (i + 1) (record { count = g.count; jobs = set g.jobs i j })
group_more words n i g j v h = record {
  count = v.count;
  legal = rw (add-one i) (every_more _ i v.legal h.0);
  jobs = rw (add-one i) (jobs_by_next (λ k. words_job (job_words words k)) i g.jobs j v.jobs h.1);
}

-- each way out
module _ (words : List ℕ) where
  none_told_by : group_legal words ≡ false → None ≡ told_group words
  none_told_by f = simp f

  pub no_words : length words < 1 → None ≡ told_group words
  unfolding group_legal
  no_words h =
      let z : count_word words ≡ 0 = get_or-eq_default words 0 (omega arith) in
      none_told_by (rw z (simp (lt-leb (group_length 0) (length words) (omega arith))))

  pub many_jobs : group_limit < count_word words → None ≡ told_group words
  unfolding group_legal
  many_jobs h = none_told_by (simp (lt-ltb group_limit (count_word words) h))

  module _ (few : count_word words ≤ group_limit) where
    pub short_group_lem : length words < group_length (count_word words) → None ≡ told_group words
    unfolding group_legal
    short_group_lem h = none_told_by (simp (le-ltb group_limit (count_word words) few, lt-leb (group_length (count_word words)) (length words) h))

    module _ (enough : group_length (count_word words) ≤ length words) where
      pub job_not : (i : ℕ) → i < count_word words → words_legal (job_words words i) ≡ false → None ≡ told_group words
      unfolding group_legal
      job_not i l f =
          let n = count_word words in
          let x = every_not (λ m. words_legal (job_words words m)) n i l f in
          none_told_by (simp (le-ltb group_limit n few, le-leb (group_length n) (length words) enough, x))

      legal_group : every (λ m. words_legal (job_words words m)) (count_word words) ≡ true → group_legal words ≡ true
      unfolding group_legal
      legal_group x = simp (le-ltb group_limit (count_word words) few, le-leb (group_length (count_word words)) (length words) enough, x)

      pub group_read : (i : ℕ) (g : Group) → GroupRead words (count_word words) i g → i ≡ count_word words → Some g ≡ told_group words
      group_read i g v q =
          let x = legal_group (rw q at v.legal) in
          let h : g ≡ words_group words = same g v.count (rw q at v.jobs) in
          rw h (simp x)
        where
          same : (g : Group) {n : ℕ} {js : List Job} → g.count ≡ n → g.jobs ≡ js → g ≡ record { count = n; jobs = js }
          same g a b = rw (← a, ← b)

-- ---- a group stored
jobs_words_next : (js : List Job) (i : ℕ) → jobs_words js (suc i) ≡ jobs_words js i ++ record_words (job_at js i)
unfolding jobs_words
jobs_words_next js i = refl

record_long : (j : Job) → length (record_words j) ≡ record_length
unfolding record_words
record_long j = refl

jobs_long : (js : List Job) (i : ℕ) → length (jobs_words js i) ≡ record_length * i
unfolding jobs_words
jobs_long js zero = refl
jobs_long js (suc i) = length-append (jobs_words js i) (record_words (job_at js i)) ∙ omega (arith, jobs_long js i, record_long (job_at js i))

pub group_long : (g : Group) → length (group_words g) ≡ group_length g.count
group_long g = omega (arith, jobs_long g.jobs g.count)

-- a record stored in exactly as many words as it takes
whole_record : (j : Job) (words : List ℕ) → length words ≡ record_length → stored_job j words ≡ record_words j
whole_record j words e =
    let l = record_long j in
    stored_enough (record_words j) words (omega arith) ∙ rw (drop_of_length-le words {i = length (record_words j)} (omega arith)) (append-nil (record_words j))

pub record Storing (g : Group) (words₀ words : List ℕ) (i : ℕ) : Type 0 where
  pub long : length words ≡ length words₀
  pub done : words ≡ (g.count ∷ jobs_words g.jobs i) ++ drop (group_length i) words₀

-- the loop starts with the count stored
abbrev pub begun : Group → List ℕ → List ℕ
begun g words = set words 0 g.count

pub begun_long : (g : Group) (words : List ℕ) {n : ℕ} → n ≤ length words → n ≤ length (begun g words)
begun_long g words h = rw (length-set words 0 g.count) h

pub storing_first : (g : Group) (words : List ℕ) → 1 ≤ length words → Storing g (begun g words) (begun g words) 0
unfolding jobs_words
storing_first g words h = record { long = refl; done = first words h }
  where
    first : (words : List ℕ) → 1 ≤ length words → begun g words ≡ (g.count ∷ jobs_words g.jobs 0) ++ drop 1 (begun g words)
    first [] h = absurd (omega arith)
    first (w ∷ words) h = refl

module _ {g : Group} {words₀ words : List ℕ} {i : ℕ} (v : Storing g words₀ words i) (enough : group_length g.count ≤ length words₀) (l : i < g.count) where
  pub storing_room : group_length i + record_length ≤ length words
  storing_room = omega (arith, v.long, mul-le-mul_left record_length l)

  pub storing_more : (j : Job) (ys : List ℕ) → j ≡ job_at g.jobs i
      → ys ≡ stored_job j (take (group_length i + record_length - group_length i) (drop (group_length i) words))
      → Storing g words₀ (put_mid (group_length i) (group_length i + record_length - group_length i) words ys) (i + 1)
  storing_more j ys q e =
      let d : group_length i + record_length - group_length i ≡ record_length = omega arith in
      let part = part_long (group_length i) record_length words storing_room in
      let y : ys ≡ record_words (job_at g.jobs i) = e ∙ whole_record j _ (rw d part) ∙ ap (λ (k : Job). record_words k) q in
      let s = stretch (g.count ∷ jobs_words g.jobs i) (record_words (job_at g.jobs i)) words words₀ (group_length i) record_length (omega (arith, jobs_long g.jobs i)) v.done in
      let b : group_length i + record_length ≡ group_length (suc i) = omega arith in
      let n : (g.count ∷ jobs_words g.jobs i) ++ record_words (job_at g.jobs i) ≡ g.count ∷ jobs_words g.jobs (suc i) = ap (λ (x : List ℕ). g.count ∷ x) (sym (jobs_words_next g.jobs i)) in
      record {
        long = same_len_mid (group_length i) (group_length i + record_length - group_length i) words ys (rw (d, part) (ap length y ∙ record_long (job_at g.jobs i))) ∙ v.long;
        done = rw (add-one i, y, d, drop-drop record_length (group_length i) words) (s ∙ ap (λ (x : List ℕ). x ++ drop (group_length i + record_length) words₀) n ∙ ap (λ (k : ℕ). (g.count ∷ jobs_words g.jobs (suc i)) ++ drop k words₀) b);
      }

module _ (g : Group) (words : List ℕ) where
  pub too_many_stored : group_limit < g.count → words ≡ stored_group g words
  unfolding stored_group
  too_many_stored h = simp (lt-ltb group_limit g.count h)

  module _ (few : g.count ≤ group_limit) where
    pub none_stored : length words < group_length g.count → words ≡ stored_group g words
    unfolding stored_group
    none_stored h = rw (le-ltb group_limit g.count few) (stored_short (group_words g) words (omega (arith, group_long g)))

    stored_all : group_length g.count ≤ length words → stored_group g words ≡ group_words g ++ drop (group_length g.count) words
    unfolding stored_group
    stored_all h = rw (le-ltb group_limit g.count few) (stored_enough (group_words g) words (omega (arith, group_long g)) ∙ ap (λ (k : ℕ). group_words g ++ drop k words) (group_long g))

    pub group_stored : (words' : List ℕ) (i : ℕ) → group_length g.count ≤ length words → Storing g (begun g words) words' i → i ≡ g.count → words' ≡ stored_group g words
    group_stored words' i h v q =
        v.done ∙ rw (q, drop-set-lt (group_length g.count) words 0 g.count (omega arith)) (sym (stored_all h))

-- ---- reading what was written: the words of any group within the limit are legal and make that group again, with the record of zeros beyond its count. With
-- `group_written` an end in itself: nothing is lost in words
jobs_by_open : (f : ℕ → Job) (i : ℕ) → jobs_by f (suc i) ≡ set (jobs_by f i) i (f i)
unfolding jobs_by
jobs_by_open f i = refl

jobs_by_cong : (f h : ℕ → Job) (n : ℕ) → ((i : ℕ) → i < n → f i ≡ h i) → jobs_by f n ≡ jobs_by h n
unfolding jobs_by
jobs_by_cong f h zero e = refl
jobs_by_cong f h (suc n) e = rw (jobs_by_cong f h n (λ i l. e i (omega arith)), e n (omega arith))

jobs_by_long : (f : ℕ → Job) (n : ℕ) → length (jobs_by f n) ≡ group_limit
unfolding jobs_by
jobs_by_long f zero = refl
jobs_by_long f (suc n) = length-set (jobs_by f n) n (f n) ∙ jobs_by_long f n

job_by : (f : ℕ → Job) (n i : ℕ) → n ≤ group_limit → i < n → job_at (jobs_by f n) i ≡ f i
job_by f zero i h l = absurd (omega arith)
job_by f (suc n) i h l =
    ap (λ (js : List Job). job_at js i) (jobs_by_open f n)
    ∙ ⊎_elim
    (λ q. rw q (get_or-set_same (jobs_by f n) n (f n) spare (rw (jobs_by_long f n) (omega arith))))
    (λ m. get_or-set_other (jobs_by f n) n i (f n) spare (omega arith) ∙ job_by f n i (omega arith) m)
    (eq-or-lt_of_le (le_of_suc-le-suc l))

-- the words of job i among those of n jobs
jobs_part : (js : List Job) (n i : ℕ) → i < n → take record_length (drop (record_length * i) (jobs_words js n)) ≡ record_words (job_at js i)
jobs_part js zero i l = absurd (omega arith)
jobs_part js (suc n) i l =
    let w = record_words (job_at js n) in
    let r = record_long (job_at js n) in
    ap (λ (x : List ℕ). take record_length (drop (record_length * i) x)) (jobs_words_next js n)
    ∙ ⊎_elim
    (λ q. rw q (ap (λ (x : List ℕ). take record_length x) (drop_at (jobs_words js n) w (record_length * n) (jobs_long js n)) ∙ take_all record_length w (omega arith)))
    (λ m. part_append (record_length * i) record_length (jobs_words js n) w (omega (arith, jobs_long js n, mul-le-mul_left record_length m)) ∙ jobs_part js n i m)
    (eq-or-lt_of_le (le_of_suc-le-suc l))

written_job : (g : Group) (rest : List ℕ) (i : ℕ) → i < g.count → job_words (group_words g ++ rest) i ≡ record_words (job_at g.jobs i)
written_job g rest i l =
    let b : group_length i ≡ suc (record_length * i) = omega arith in
    ap (λ (k : ℕ). take record_length (drop k (group_words g ++ rest))) b
    ∙ part_append (record_length * i) record_length (jobs_words g.jobs g.count) rest (omega (arith, jobs_long g.jobs g.count, mul-le-mul_left record_length l))
    ∙ jobs_part g.jobs g.count i l

-- a record's words alone
own_legal : (j : Job) → words_legal (record_words j) ≡ true
own_legal j = ap (λ (w : List ℕ). words_legal w) (sym (append-nil (record_words j))) ∙ words_legal_lem j []

own_job : (j : Job) → words_job (record_words j) ≡ j
own_job j = ap (λ (w : List ℕ). words_job w) (sym (append-nil (record_words j))) ∙ read_written j []

module _ (g : Group) (rest : List ℕ) (few : g.count ≤ group_limit) where
  pub group_words_legal : group_legal (group_words g ++ rest) ≡ true
  group_words_legal =
      let long : group_length g.count ≤ length (group_words g ++ rest) = omega (arith, length-append (group_words g) rest, group_long g) in
      let each = every_of (λ i. words_legal (job_words (group_words g ++ rest) i)) g.count (λ i l. rw (written_job g rest i l) (own_legal (job_at g.jobs i))) in
      legal_group (group_words g ++ rest) few long each

  pub group_read_back : words_group (group_words g ++ rest) ≡ counted g
  group_read_back =
      ap (λ (js : List Job). record { count = g.count; jobs = js })
      (jobs_by_cong (λ i. words_job (job_words (group_words g ++ rest) i)) (job_at g.jobs) g.count (λ i l. rw (written_job g rest i l) (own_job (job_at g.jobs i))))

-- so are lent words after a group was stored in them
module _ (g : Group) (words : List ℕ) (few : g.count ≤ group_limit) (enough : group_length g.count ≤ length words) where
  pub stored_legal : group_legal (stored_group g words) ≡ true
  stored_legal = ap (λ (w : List ℕ). group_legal w) (stored_all g words few enough) ∙ group_words_legal g (drop (group_length g.count) words) few

  pub stored_read_back : words_group (stored_group g words) ≡ counted g
  stored_read_back = ap (λ (w : List ℕ). words_group w) (stored_all g words few enough) ∙ group_read_back g (drop (group_length g.count) words) few

-- a group that has the record of zeros there already, as each that words tell, is read back as it is
pub counted_again : (f : ℕ → Job) (n : ℕ) → n ≤ group_limit → counted (group_by f n) ≡ group_by f n
counted_again f n few =
    ap (λ (js : List Job). record { count = n; jobs = js }) (jobs_by_cong (job_at (jobs_by f n)) f n (λ i l. job_by f n i few l))

-- ---- writing what was read
pub record LegalGroup (words : List ℕ) : Type 0 where
  pub few : count_word words ≤ group_limit
  pub enough : group_length (count_word words) ≤ length words
  pub each : (i : ℕ) → i < count_word words → words_legal (job_words words i) ≡ true

pub legal_group_of : (words : List ℕ) → group_legal words ≡ true → LegalGroup words
unfolding group_legal
legal_group_of words e =
    let n = count_word words in
    let few = not (too_many n) in
    let enough = leb (group_length n) (length words) in
    let a = both_true (few && enough) (every (λ i. words_legal (job_words words i)) n) e in
    let b = both_true few enough a.0 in
    record {
      few = ltb-false group_limit n (not-true (too_many n) b.0);
      enough = leb-true (group_length n) (length words) b.1;
      each = λ i l. every_one (λ k. words_legal (job_words words k)) n i a.1 l;
    }

-- the words of a legal record of exactly as many are the ones that it is written as
own_words : (words : List ℕ) → length words ≡ record_length → words_legal words ≡ true → record_words (words_job words) ≡ words
own_words words l e = sym (whole_record (words_job words) words l) ∙ written_read words e

jobs_written : (words : List ℕ) (js : List Job) (n : ℕ) → group_length n ≤ length words
    → ((i : ℕ) → i < n → (words_legal (job_words words i) ≡ true) × (job_at js i ≡ words_job (job_words words i)))
    → jobs_words js n ≡ take (record_length * n) (drop 1 words)
unfolding jobs_words
jobs_written words js zero h e = refl
jobs_written words js (suc n) h e =
    let m = e n (omega arith) in
    let k : record_length * suc n ≡ record_length * n + record_length = omega arith in
    let w = own_words (job_words words n) (part_long (group_length n) record_length words (omega arith)) m.0 in
    let here : record_words (job_at js n) ≡ take record_length (drop (record_length * n) (drop 1 words)) = ap (λ (j : Job). record_words j) m.1 ∙ w ∙ ap (λ (x : List ℕ). take record_length x) (sym (drop-drop (record_length * n) 1 words)) in
    rw (jobs_written words js n (omega arith) (λ i l. e i (omega arith)), here, k) (sym (take-add (record_length * n) record_length (drop 1 words)))

-- an end in itself: legal words are stored as they were read
pub group_written : (words : List ℕ) → group_legal words ≡ true → stored_group (words_group words) words ≡ words
group_written words e =
    let l = legal_group_of words e in
    let n = count_word words in
    let g = words_group words in
    let js = jobs_written words g.jobs n l.enough (λ i m. (l.each i m, job_by (λ k. words_job (job_words words k)) n i l.few m)) in
    let rest : drop (group_length n) words ≡ drop (record_length * n) (drop 1 words) = sym (drop-drop (record_length * n) 1 words) in
    let first : words ≡ n ∷ drop 1 words = drop-cons words 0 0 (omega (arith, l.enough)) in
    stored_all g words l.few l.enough
    ∙ ap (λ (x : List ℕ). n ∷ x) (rw (js, rest) (take-append-drop (record_length * n) (drop 1 words)))
    ∙ sym first

-- ---- what is known of words by what they tell
abbrev is_some : {T : Type 0} → Option T → Bool
is_some (Some x) = true
is_some None = false

abbrev some_or : {T : Type 0} → T → Option T → T
some_or other (Some x) = x
some_or other None = other

some_told : {T : Type 0} (b : Bool) (x y : T) → Some y ≡ cond b (Some x) None → (b ≡ true) × (y ≡ x)
some_told true x y e = (refl, ap (some_or x) e)
some_told false x y e = absurd (true≢false (ap is_some e))

none_told_lem : {T : Type 0} (b : Bool) (x : T) → None ≡ cond b (Some x) None → b ≡ false
none_told_lem true x e = absurd (true≢false (sym (ap is_some e)))
none_told_lem false x e = refl

module _ (words : List ℕ) (count lent : ℕ) {got : Option (List Plan)} (e : got ≡ told_plans words count lent) where
  pub plans_legal_lem : (plans : List Plan) → got ≡ Some plans → (plans_legal words (looked count) lent ≡ true) × (plans ≡ plans_of words (looked count))
  plans_legal_lem plans h = some_told (plans_legal words (looked count) lent) (plans_of words (looked count)) plans (sym h ∙ e)

  pub plans_illegal : got ≡ None → plans_legal words (looked count) lent ≡ false
  plans_illegal h = none_told_lem (plans_legal words (looked count) lent) (plans_of words (looked count)) (sym h ∙ e)

module _ (words : List ℕ) {got : Option Group} (e : got ≡ told_group words) where
  pub group_legal_lem : (group : Group) → got ≡ Some group → (group_legal words ≡ true) × (group ≡ words_group words)
  group_legal_lem group h = some_told (group_legal words) (words_group words) group (sym h ∙ e)

  pub group_illegal : got ≡ None → group_legal words ≡ false
  group_illegal h = none_told_lem (group_legal words) (words_group words) (sym h ∙ e)
