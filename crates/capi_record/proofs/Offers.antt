-- A call that offers rows to the job that the record's words tell, with one word for the count: what each way out gives, whatever the library's call is.
-- Where it went through, the record that the library hands back is the one that is stored. Assumes nothing.
use Rattle.std.specs.Prelude.{Option, Some, None, Result, Ok, Err}
use Prim.Native.Nat.{ℕ, ◌≤◌}
use mathlib.Core.Path.{◌≡◌, sym, ap, ◌∙◌}
use mathlib.Core.List.{List}
use lib.Dec.{ltb}
use lib.ListN.{length}
use borrow.Author.Tests.{le-ltb}
use Rattle.pixels.specs.declared.Refusal.{Refusal}
use Rattle.pixels.specs.declared.Refusal.TheVariants.{InvalidRecord}
use Rattle.pixels.specs.Refusals.{number, answer_number, value_or, buffer_if}
use Rattle.job.specs.declared.Job.{Job}
use Rattle.capi_words.specs.Boundary.{boundary_first, stored_word}
use Rattle.capi_words.proofs.Boundary.{kept_by, written_by, buffer_told}
use Rattle.capi_record.specs.Record.{words_job, told_by, stored_job, record_first}
use Rattle.capi_record.proofs.Records.{job_legal, none_legal}

-- ---- words that make no record
pub no_record : (words : List ℕ) (n r : ℕ) {t : Option Job} → t ≡ told_by words → t ≡ None → r ≡ number InvalidRecord → r ≡ record_first words n
no_record words n r e f h = h ∙ simp (none_legal words (sym e ∙ f))

pub one_lent : (lent n : ℕ) → 1 ≤ lent → n ≡ boundary_first (ltb lent 1) n
one_lent lent n h = simp (le-ltb lent 1 h)

-- ---- the library's number of a record, the rows that it accepts, the next record and the work values
module _ (words work count : List ℕ) (lent : 1 ≤ length count) (number_of_lem rows_of_lem : Job → ℕ) (next_of : Job → Job) (work_of : Job → List ℕ) where
  -- the number told
  abbrev n : ℕ
  n = boundary_first (ltb (length count) 1) (record_first words (number_of_lem (words_job words)))

  -- number, record, work values and count, as a contract has them
  abbrev Answer : ℕ → List ℕ → List ℕ → List ℕ → Type 0
  Answer r words' work' count' =
      (r ≡ n)
      × ((words' ≡ buffer_if n (stored_job (next_of (words_job words)) words) words)
      × ((work' ≡ buffer_if n (work_of (words_job words)) work) × (count' ≡ buffer_if n (stored_word (rows_of_lem (words_job words)) count) count)))

  pub none_told : (r : ℕ) {t : Option Job} → t ≡ told_by words → t ≡ None → r ≡ number InvalidRecord → Answer r words work count
  none_told r e f h =
      let z : r ≡ n = no_record words (number_of_lem (words_job words)) r e f h ∙ one_lent (length count) (record_first words (number_of_lem (words_job words))) lent in
      let k = sym z ∙ h in
      (z, (kept_by InvalidRecord n _ words k, (kept_by InvalidRecord n _ work k, kept_by InvalidRecord n _ count k)))

  -- to the job j that the words tell
  module _ (j : Job) {t : Option Job} (e : t ≡ told_by words) (f : t ≡ Some j) (said : Result ℕ Refusal) (m : answer_number said ≡ number_of_lem j)
      (next : List ℕ) (w : next ≡ buffer_if (number_of_lem j) (work_of j) work) where
    same : j ≡ words_job words
    same = sym (job_legal words j (sym e ∙ f)).1

    number_is : number_of_lem j ≡ n
    number_is =
        let l = job_legal words j (sym e ∙ f) in
        simp (le-ltb (length count) 1 lent, l.0, l.1)

    work_is : next ≡ buffer_if n (work_of (words_job words)) work
    work_is = buffer_told n (number_of_lem j) next (work_of j) work number_is w ∙ ap (λ (z : Job). buffer_if n (work_of z) work) same

    pub offer_refused : (why : Refusal) (r : ℕ) → said ≡ Err why → r ≡ number why → Answer r words next count
    offer_refused why r a h =
        let z : number why ≡ n = (rw a at m) ∙ number_is in
        (h ∙ z, (kept_by why n _ words (sym z), (work_is, kept_by why n _ count (sym z))))

    pub offer_accepted : (rows : ℕ) (job : Job) (words' count' : List ℕ) → said ≡ Ok rows → value_or 0 said ≡ rows_of_lem j
        → job ≡ next_of j → words' ≡ stored_job job words → count' ≡ stored_word rows count → Answer 0 words' next count'
    offer_accepted rows job words' count' a c o s u =
        let z : 0 ≡ n = (rw a at m) ∙ number_is in
        let x : rows ≡ rows_of_lem (words_job words) = rw (a, same) at c in
        let y : job ≡ next_of (words_job words) = rw same at o in
        (z, (written_by n words' _ words z (rw y at s), (work_is, written_by n count' _ count z (rw x at u))))
