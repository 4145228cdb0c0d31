-- A record written into words and read back is that record, and the words of a legal record are the ones that it is written as: neither way loses anything.
-- Each word stands at its own place, and layouts, flags and kinds are told apart by their words. Assumes nothing.
use Rattle.std.specs.Prelude.{Option, Some, None}
use Prim.Native.Nat.{ℕ, zero, suc, ◌≤◌, ◌<◌}
use mathlib.Core.Path.{◌≡◌, refl, sym, ap, ◌∙◌}
use mathlib.Core.Bool.{Bool, true, false, cond, ◌&&◌, true≢false}
use mathlib.Core.List.{List, [], ◌∷◌, ◌++◌}
use native.Mathlib.Omega.{arith}
use lib.Dec.{leb, lit<}
use lib.ListN.{length, get_or, drop}
use lib.Seq.{drop-cons}
use borrow.Author.Tests.{leb-true, ltb-true, le-leb, lt-leb, lt-ltb, le-ltb}
use Rattle.pixels_layout.specs.declared.PixelLayout.{PixelLayout}
use Rattle.pixels_layout.specs.declared.PixelLayout.TheVariants.{Rgba8, Argb8, Bgra8}
use Rattle.job_rules.specs.declared.Kind.{Kind}
use Rattle.job_rules.specs.declared.Kind.TheVariants.{Picture, Plane}
use Rattle.job.specs.declared.Job.{Job}
use Rattle.capi_words.specs.Words.{is_layout, word_layout, layout_word, is_flag, word_flag, flag_word, stored}
use Rattle.capi_record.specs.Record.{word_kind, is_kind, kind_word, record_length, record_words, words_job, words_legal, told_by, stored_job}
use Rattle.capi_words.proofs.Words.{stored_enough}
use Rattle.pixels.proofs.Truths.{both_true}

-- ---- a layout, a flag, a kind
pub layout_back : (l : PixelLayout) → word_layout (layout_word l) ≡ l
layout_back Rgba8 = refl
layout_back Argb8 = refl
layout_back Bgra8 = refl

pub layout_legal : (l : PixelLayout) → is_layout (layout_word l) ≡ true
layout_legal Rgba8 = refl
layout_legal Argb8 = refl
layout_legal Bgra8 = refl

pub flag_back : (b : Bool) → word_flag (flag_word b) ≡ b
flag_back true = refl
flag_back false = refl

pub flag_legal : (b : Bool) → is_flag (flag_word b) ≡ true
flag_legal true = refl
flag_legal false = refl

pub kind_back : (k : Kind) → word_kind (kind_word k) ≡ k
kind_back Picture = refl
kind_back Plane = refl

pub kind_legal : (k : Kind) → is_kind (kind_word k) ≡ true
kind_legal Picture = refl
kind_legal Plane = refl

pub layout_word_lem : (word : ℕ) → is_layout word ≡ true → layout_word (word_layout word) ≡ word
layout_word_lem zero e = refl
layout_word_lem (suc zero) e = refl
layout_word_lem (suc (suc zero)) e = refl
layout_word_lem (suc (suc (suc word))) e = absurd (omega (arith, ltb-true (suc (suc (suc word))) 3 e))

pub flag_word_lem : (word : ℕ) → is_flag word ≡ true → flag_word (word_flag word) ≡ word
flag_word_lem zero e = refl
flag_word_lem (suc zero) e = refl
flag_word_lem (suc (suc word)) e = absurd (omega (arith, leb-true (suc (suc word)) 1 e))

pub kind_word_lem : (word : ℕ) → is_kind word ≡ true → kind_word (word_kind word) ≡ word
kind_word_lem zero e = refl
kind_word_lem (suc zero) e = refl
kind_word_lem (suc (suc word)) e = absurd (omega (arith, ltb-true (suc (suc word)) 2 e))

-- every word but 1 stands for a picture
pub first_kind : (word : ℕ) → (word ≡ 1 → ⊥) → Picture ≡ word_kind word
first_kind zero a = refl
first_kind (suc zero) a = absurd (a refl)
first_kind (suc (suc word)) a = refl

-- ---- reading what was written: the words of any record are legal and make that record again. With `written_read` an end in itself: nothing is lost in words
pub words_legal_lem : (j : Job) (rest : List ℕ) → words_legal (record_words j ++ rest) ≡ true
unfolding record_words words_legal
words_legal_lem j rest =
    let long : leb record_length (length (record_words j ++ rest)) ≡ true = le-leb record_length (length (record_words j ++ rest)) (omega arith) in
    simp (long, layout_legal j.plan.layout, kind_legal j.plan.kind, flag_legal j.flag)

pub read_written : (j : Job) (rest : List ℕ) → words_job (record_words j ++ rest) ≡ j
unfolding record_words words_job
read_written j rest = rw (layout_back, flag_back, kind_back) refl

-- ---- writing what was read
-- what legal words are known by
pub record Legal (words : List ℕ) : Type 0 where
  pub enough : record_length ≤ length words
  pub layout : is_layout (get_or words 2 0) ≡ true
  pub kind : is_kind (get_or words 12 0) ≡ true
  pub flag : is_flag (get_or words 11 0) ≡ true

pub legal_of : (words : List ℕ) → words_legal words ≡ true → Legal words
unfolding words_legal
legal_of words e =
    let long = leb record_length (length words) in
    let layout = is_layout (get_or words 2 0) in
    let kind = is_kind (get_or words 12 0) in
    let a = both_true (long && layout && kind) (is_flag (get_or words 11 0)) e in
    let k = both_true (long && layout) kind a.0 in
    let b = both_true long layout k.0 in
    record { enough = leb-true record_length (length words) b.0; layout = b.1; kind = k.1; flag = a.1 }

-- ---- the tests in their order
pub too_short : (words : List ℕ) → length words < record_length → false ≡ words_legal words
unfolding words_legal
too_short words h = simp (lt-leb record_length (length words) h)

pub no_layout : (words : List ℕ) → record_length ≤ length words → 3 ≤ get_or words 2 0 → false ≡ words_legal words
unfolding words_legal
no_layout words h k = simp (le-leb record_length (length words) h, le-ltb (get_or words 2 0) 3 k)

-- a layout, but no kind; and with both the flag's word decides
module _ (words : List ℕ) (h : record_length ≤ length words) (l : get_or words 2 0 < 3) where
  pub no_kind : 2 ≤ get_or words 12 0 → false ≡ words_legal words
  unfolding words_legal
  no_kind k = simp (le-leb record_length (length words) h, lt-ltb (get_or words 2 0) 3 l, le-ltb (get_or words 12 0) 2 k)

  pub flag_decides : get_or words 12 0 < 2 → is_flag (get_or words 11 0) ≡ words_legal words
  unfolding words_legal
  flag_decides k = simp (le-leb record_length (length words) h, lt-ltb (get_or words 2 0) 3 l, lt-ltb (get_or words 12 0) 2 k)

fourteen : (words : List ℕ) → record_length ≤ length words
    → words
    ≡ get_or words 0 0 ∷ get_or words 1 0 ∷ get_or words 2 0 ∷ get_or words 3 0 ∷ get_or words 4 0 ∷ get_or words 5 0 ∷ get_or words 6 0 ∷ get_or words 7 0 ∷ get_or words 8 0 ∷ get_or words 9 0 ∷ get_or words 10 0 ∷ get_or words 11 0 ∷ get_or words 12 0 ∷ get_or words 13 0 ∷ drop 14 words
fourteen words h =
    let d0 : words ≡ get_or words 0 0 ∷ drop 1 words = at 0 (lit< tt) in
    let d1 : drop 1 words ≡ get_or words 1 0 ∷ drop 2 words = at 1 (lit< tt) in
    let d2 : drop 2 words ≡ get_or words 2 0 ∷ drop 3 words = at 2 (lit< tt) in
    let d3 : drop 3 words ≡ get_or words 3 0 ∷ drop 4 words = at 3 (lit< tt) in
    let d4 : drop 4 words ≡ get_or words 4 0 ∷ drop 5 words = at 4 (lit< tt) in
    let d5 : drop 5 words ≡ get_or words 5 0 ∷ drop 6 words = at 5 (lit< tt) in
    let d6 : drop 6 words ≡ get_or words 6 0 ∷ drop 7 words = at 6 (lit< tt) in
    let d7 : drop 7 words ≡ get_or words 7 0 ∷ drop 8 words = at 7 (lit< tt) in
    let d8 : drop 8 words ≡ get_or words 8 0 ∷ drop 9 words = at 8 (lit< tt) in
    let d9 : drop 9 words ≡ get_or words 9 0 ∷ drop 10 words = at 9 (lit< tt) in
    let d10 : drop 10 words ≡ get_or words 10 0 ∷ drop 11 words = at 10 (lit< tt) in
    let d11 : drop 11 words ≡ get_or words 11 0 ∷ drop 12 words = at 11 (lit< tt) in
    let d12 : drop 12 words ≡ get_or words 12 0 ∷ drop 13 words = at 12 (lit< tt) in
    let d13 : drop 13 words ≡ get_or words 13 0 ∷ drop 14 words = at 13 (lit< tt) in
    cc
  where
    at : (i : ℕ) → i < record_length → drop i words ≡ get_or words i 0 ∷ drop (suc i) words
    at i k = drop-cons words i 0 (omega arith)

-- an end in itself: legal words are stored as they were read
pub written_read : (words : List ℕ) → words_legal words ≡ true → stored_job (words_job words) words ≡ words
unfolding record_words words_job
written_read words e =
    let l = legal_of words e in
    stored_enough (record_words (words_job words)) words l.enough ∙ rw (layout_word_lem _ l.layout, flag_word_lem _ l.flag, kind_word_lem _ l.kind) (sym (fourteen words l.enough))

-- ---- what the functions answer
-- an answer of the record's words, in their order
pub job_stored : (j : Job) (l f k : ℕ) (next words : List ℕ) → l ≡ layout_word j.plan.layout → f ≡ flag_word j.flag → k ≡ kind_word j.plan.kind
    → next
    ≡ stored
    (j.plan.source.width ∷ j.plan.source.height ∷ l ∷ j.plan.crop.x ∷ j.plan.crop.y ∷ j.plan.crop.width ∷ j.plan.crop.height ∷ j.plan.target.width ∷ j.plan.target.height ∷ j.accepted ∷ j.taken ∷ f ∷ k ∷ j.plan.lanes ∷ [])
    words
    → next ≡ stored_job j words
unfolding record_words
job_stored j l f k next words a b d h = rw (a, b, d) at h

pub told_nothing : (words : List ℕ) {t : Bool} → t ≡ words_legal words → t ≡ false → None ≡ told_by words
told_nothing words e f = simp (sym e ∙ f)

pub told_job : (words : List ℕ) (j : Job) {t : Bool} → t ≡ words_legal words → t ≡ true → j ≡ words_job words → Some j ≡ told_by words
told_job words j e f h = rw h (simp (sym e ∙ f))

pub enough_words : (words : List ℕ) {t : Bool} → t ≡ words_legal words → t ≡ true → record_length ≤ length words
enough_words words e f = (legal_of words (sym e ∙ f)).enough

-- ---- what is known of words by what they tell
abbrev is_job : Option Job → Bool
is_job (Some j) = true
is_job None = false

abbrev job_or : Job → Option Job → Job
job_or other (Some j) = j
job_or other None = other

pub job_told : (b : Bool) (i j : Job) → cond b (Some i) None ≡ Some j → (b ≡ true) × (i ≡ j)
job_told true i j e = (refl, ap (job_or i) e)
job_told false i j e = absurd (true≢false (sym (ap is_job e)))

pub none_told : (b : Bool) (i : Job) → cond b (Some i) None ≡ None → b ≡ false
none_told true i e = absurd (true≢false (ap is_job e))
none_told false i e = refl

pub job_legal : (words : List ℕ) (j : Job) → told_by words ≡ Some j → (words_legal words ≡ true) × (words_job words ≡ j)
job_legal words j e = job_told (words_legal words) (words_job words) j e

pub none_legal : (words : List ℕ) → told_by words ≡ None → words_legal words ≡ false
none_legal words e = none_told (words_legal words) (words_job words) e
