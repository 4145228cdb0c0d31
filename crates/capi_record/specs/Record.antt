-- The record as words (SCOPE, "The job": source size, layout, crop, target, rows accepted, rows taken, the flag so far; then the kind and the lanes). Words
-- after the last are the caller's. Assumes nothing.
use Rattle.std.specs.Prelude.{Option, Some, None, ℕ, Bool, cond, ◌&&◌, List, [], ◌∷◌, leb, ltb, length, get_or}
use Rattle.pixels.specs.declared.Refusal.TheVariants.{InvalidRecord}
use Rattle.pixels.specs.Refusals.{number}
use Rattle.pixels.specs.Sizes.{size_of, rect_of}
use Rattle.job_rules.specs.declared.Kind.{Kind}
use Rattle.job_rules.specs.declared.Kind.TheVariants.{Picture, Plane}
use Rattle.job_rules.specs.declared.Plan.{Plan}
use Rattle.job_rules.specs.Rules.{plan_of}
use Rattle.job.specs.declared.Job.{Job}
use Rattle.capi_words.specs.Words.{is_layout, word_layout, layout_word, is_flag, word_flag, flag_word, stored}

-- ---- kinds
abbrev pub kinds : List Kind
kinds = Picture ∷ Plane ∷ []

-- the kind that a word names; one that names none stands for the first
abbrev pub word_kind : ℕ → Kind
word_kind word = get_or kinds word Picture

abbrev pub is_kind : ℕ → Bool
is_kind word = ltb word (length kinds)

abbrev pub kind_word : Kind → ℕ
kind_word Picture = 0
kind_word Plane = 1

-- ---- the record
-- how many words a record takes
abbrev pub record_length : ℕ
record_length = 14

unfoldable pub record_words : Job → List ℕ
record_words j =
    j.plan.source.width
    ∷ j.plan.source.height
    ∷ layout_word j.plan.layout
    ∷ j.plan.crop.x
    ∷ j.plan.crop.y
    ∷ j.plan.crop.width
    ∷ j.plan.crop.height
    ∷ j.plan.target.width
    ∷ j.plan.target.height
    ∷ j.accepted
    ∷ j.taken
    ∷ flag_word j.flag
    ∷ kind_word j.plan.kind
    ∷ j.plan.lanes
    ∷ []

-- the plan of a picture's start: a source, a layout word, a crop and a target
abbrev pub words_plan : ℕ → ℕ → ℕ → ℕ → ℕ → ℕ → ℕ → ℕ → ℕ → Plan
words_plan sw sh layout x y cw ch tw th = plan_of (size_of sw sh) (word_layout layout) (rect_of x y cw ch) (size_of tw th)

-- the plan that the words of a record tell, each word at its place
abbrev pub record_plan : List ℕ → Plan
record_plan words = record {
  source = size_of (get_or words 0 0) (get_or words 1 0);
  layout = word_layout (get_or words 2 0);
  crop = rect_of (get_or words 3 0) (get_or words 4 0) (get_or words 5 0) (get_or words 6 0);
  target = size_of (get_or words 7 0) (get_or words 8 0);
  kind = word_kind (get_or words 12 0);
  lanes = get_or words 13 0;
}

-- the record that they tell
unfoldable pub words_job : List ℕ → Job
words_job words = record {
  plan = record_plan words;
  accepted = get_or words 9 0;
  taken = get_or words 10 0;
  flag = word_flag (get_or words 11 0);
}

-- enough words, the layout's, the kind's and the flag's among their values
unfoldable pub words_legal : List ℕ → Bool
words_legal words = leb record_length (length words) && is_layout (get_or words 2 0) && is_kind (get_or words 12 0) && is_flag (get_or words 11 0)

-- what words tell: a record, or nothing where they make none
abbrev pub told_by : List ℕ → Option Job
told_by words = cond (words_legal words) (Some (words_job words)) None

-- lent words after a record was stored
abbrev pub stored_job : Job → List ℕ → List ℕ
stored_job j words = stored (record_words j) words

-- 6 where the words make no record, as for a record that breaks the rules, and the library's number n where they do
abbrev pub record_first : List ℕ → ℕ → ℕ
record_first words n = cond (words_legal words) n (number InvalidRecord)
