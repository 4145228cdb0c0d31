-- The record of a group as words, and the plans of its jobs (SCOPE, "Groups"): the count of jobs, then the words of each job's record; so the words needed depend
-- on the count and not on the limit. Words after the last are the caller's. Assumes nothing.
use Rattle.std.specs.Prelude.{ℕ, zero, suc, ◌+◌, ◌*◌, Bool, cond, not, ◌&&◌, Option, Some, None, List, [], ◌∷◌, ◌++◌, leb, length, get_or, take, drop, set, replicate}
use Rattle.pixels.specs.declared.Refusal.TheVariants.{InvalidRecord}
use Rattle.pixels.specs.Refusals.{number}
use Rattle.pixels.specs.Sizes.{size_of, rect_of}
use Rattle.job_rules.specs.declared.Plan.{Plan}
use Rattle.job.specs.declared.Job.{Job}
use Rattle.job.specs.Record.{fresh}
use Rattle.group_rules.specs.declared.Group.{Group}
use Rattle.group_rules.specs.Group.{group_limit, spare, job_at, every, too_many, looked}
use Rattle.capi_words.specs.Words.{is_layout, word_layout, stored}
use Rattle.capi_record.specs.Record.{is_kind, word_kind, record_length, record_words, words_job, words_legal}

-- ---- the plans that a start is given

-- how many words a plan takes: those of a record without rows accepted, rows taken and the flag
abbrev pub plan_length : ℕ
plan_length = 11

-- the plan that they tell, each word at its place
unfoldable pub plan_of_words : List ℕ → Plan
plan_of_words words = record {
  source = size_of (get_or words 0 0) (get_or words 1 0);
  layout = word_layout (get_or words 2 0);
  crop = rect_of (get_or words 3 0) (get_or words 4 0) (get_or words 5 0) (get_or words 6 0);
  target = size_of (get_or words 7 0) (get_or words 8 0);
  kind = word_kind (get_or words 9 0);
  lanes = get_or words 10 0;
}

-- the layout's and the kind's among their values
unfoldable pub plan_legal : List ℕ → Bool
plan_legal words = is_layout (get_or words 2 0) && is_kind (get_or words 9 0)

-- the words of plan i
abbrev pub plan_words : List ℕ → ℕ → List ℕ
plan_words words i = take plan_length (drop (plan_length * i) words)

-- how many words the record of a group of n jobs takes
abbrev pub group_length : ℕ → ℕ
group_length n = 1 + record_length * n

-- what one plan's words tell: the fresh record, or nothing
abbrev pub told_plan : List ℕ → Option Job
told_plan words = cond (plan_legal words) (Some (fresh (plan_of_words words))) None

-- n plans can be read, and their group's record has room in so many words lent
unfoldable pub plans_legal : List ℕ → ℕ → ℕ → Bool
plans_legal words n lent =
    leb (plan_length * n) (length words)
    && leb (group_length n) lent
    && every (λ i. plan_legal (plan_words words i)) n

-- the first n of them; the other places hold the plan of zeros
unfoldable pub plans_of : List ℕ → ℕ → List Plan
plans_of words zero = replicate group_limit spare.plan
plans_of words (suc i) = set (plans_of words i) i (plan_of_words (plan_words words i))

-- what the words of count plans tell, of which a start looks at the first so many only
abbrev pub told_plans : List ℕ → ℕ → ℕ → Option (List Plan)
told_plans words count lent = cond (plans_legal words (looked count) lent) (Some (plans_of words (looked count))) None

-- ---- the group's record

-- the words of job i
abbrev pub job_words : List ℕ → ℕ → List ℕ
job_words words i = take record_length (drop (group_length i) words)

abbrev pub count_word : List ℕ → ℕ
count_word words = get_or words 0 0

-- a count within the limit, enough words for it, and each job's words legal; a record of no words has no count
unfoldable pub group_legal : List ℕ → Bool
group_legal words =
    not (too_many (count_word words))
    && leb (group_length (count_word words)) (length words)
    && every (λ i. words_legal (job_words words i)) (count_word words)

-- n jobs, job i being f i; the other places hold the record of zeros
unfoldable pub jobs_by : (ℕ → Job) → ℕ → List Job
jobs_by f zero = replicate group_limit spare
jobs_by f (suc i) = set (jobs_by f i) i (f i)

abbrev pub group_by : (ℕ → Job) → ℕ → Group
group_by f n = record { count = n; jobs = jobs_by f n }

-- the group that words tell
abbrev pub words_group : List ℕ → Group
words_group words = group_by (λ i. words_job (job_words words i)) (count_word words)

-- what words tell: a group, or nothing where they make none
abbrev pub told_group : List ℕ → Option Group
told_group words = cond (group_legal words) (Some (words_group words)) None

-- the words of the first n jobs
unfoldable pub jobs_words : List Job → ℕ → List ℕ
jobs_words js zero = []
jobs_words js (suc i) = jobs_words js i ++ record_words (job_at js i)

abbrev pub group_words : Group → List ℕ
group_words g = g.count ∷ jobs_words g.jobs g.count

-- lent words after a group was stored; one of more jobs than a group has, and one that they have no room for, leaves them as they were
unfoldable pub stored_group : Group → List ℕ → List ℕ
stored_group g words = cond (too_many g.count) words (stored (group_words g) words)

-- the group with the record of zeros beyond its count, where what stands "says nothing"
abbrev pub counted : Group → Group
counted g = group_by (job_at g.jobs) g.count

-- 6 where the words make no group, as for one that breaks the rules, and the library's number n where they do
abbrev pub group_first : List ℕ → ℕ → ℕ
group_first words n = cond (group_legal words) n (number InvalidRecord)
