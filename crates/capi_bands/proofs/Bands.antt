-- What each way out of the calls of a band gives, as their contracts state it. Assumes nothing.
use Rattle.std.specs.Prelude.{Option, Some, None, Result, Ok, Err}
use Prim.Native.Nat.{ℕ, ◌≤◌}
use mathlib.Core.Path.{◌≡◌, sym, ap, ◌∙◌}
use mathlib.Core.Bool.{Bool, true, false, not}
use mathlib.Core.List.{List, [], ◌∷◌}
use lib.ListN.{length}
use Rattle.pixels.specs.declared.Refusal.{Refusal}
use Rattle.pixels.specs.declared.Refusal.TheVariants.{InvalidRecord}
use Rattle.pixels.specs.Refusals.{Cause, number, buffer_if, answer_number, value_or}
use Rattle.pixels.proofs.Causes.{first_at, first_none}
use Rattle.job_rules.specs.Rules.{bad_record}
use Rattle.job.specs.declared.Job.{Job}
use Rattle.job.specs.Record.{lawful}
use Rattle.job_band.specs.Bands.{next_band, band_number, band_accepted, band_job, band_work}
use Rattle.capi_record.specs.Record.{words_job, told_by, stored_job, record_first}
use Rattle.capi_record.proofs.Records.{job_legal}
use Rattle.capi_record.proofs.Offers as offers
use Rattle.capi_record.proofs.Offers.{no_record, one_lent}
use Rattle.capi_words.specs.Boundary.{stored_word}
use Rattle.capi_words.proofs.Boundary.{kept_by, written_by, written_once}
use Rattle.capi_bands.specs.Bands.{record_number, number_of_count, count_after_count, number_of_band, record_after_band, work_after_band, count_after_band}

-- ---- jonquilsaw_band_count
module _ (words count : List ℕ) (lent : 1 ≤ length count) where
  -- r is told as 6
  six : (r : ℕ) → r ≡ number InvalidRecord → r ≡ record_first words (record_number (words_job words))
      → (r ≡ number_of_count words (length count)) × (count ≡ count_after_count words count)
  unfolding number_of_count count_after_count
  six r h q =
      let z = q ∙ one_lent (length count) (record_first words (record_number (words_job words))) lent in
      (z, kept_by InvalidRecord _ _ count (sym z ∙ h))

  pub count_no_record : (r : ℕ) {t : Option Job} → t ≡ told_by words → t ≡ None → r ≡ number InvalidRecord
      → (r ≡ number_of_count words (length count)) × (count ≡ count_after_count words count)
  count_no_record r e f h = six r h (no_record words (record_number (words_job words)) r e f h)

  -- of the job j that the words tell; b is whether it meets the rules
  module _ (j : Job) {t : Option Job} (e : t ≡ told_by words) (f : t ≡ Some j) (b : Bool) (is : b ≡ lawful j) where
    same : j ≡ words_job words
    same = sym (job_legal words j (sym e ∙ f)).1

    told_of : record_number j ≡ record_first words (record_number (words_job words))
    told_of =
        let l = job_legal words j (sym e ∙ f) in
        simp (l.0, l.1)

    abbrev tests : List Cause
    tests = bad_record j.plan j.accepted j.taken j.flag ∷ []

    pub count_refused : (r : ℕ) → not b ≡ true → r ≡ number InvalidRecord → (r ≡ number_of_count words (length count)) × (count ≡ count_after_count words count)
    count_refused r broken h = six r h (h ∙ sym (first_at tests 0 tt (ap not (sym is) ∙ broken)) ∙ told_of)

    pub count_told : (rows : ℕ) (count' : List ℕ) → not b ≡ false → rows ≡ next_band j → count' ≡ stored_word rows count
        → (0 ≡ number_of_count words (length count)) × (count' ≡ count_after_count words count)
    unfolding number_of_count count_after_count
    count_told rows count' good r-is s =
        let z : 0 ≡ record_number j = sym (first_none tests (ap not (sym is) ∙ good, tt)) in
        let q = z ∙ told_of ∙ one_lent (length count) (record_first words (record_number (words_job words))) lent in
        let x : rows ≡ next_band (words_job words) = r-is ∙ ap next_band same in
        (q, written_by _ count' _ count q (rw x at s))

-- ---- jonquilsaw_band_offer
module _ (words rows work count : List ℕ) (lent : 1 ≤ length count) where
  abbrev number_of : Job → ℕ
  number_of j = band_number j (length rows) (length work)

  abbrev rows_of : Job → ℕ
  rows_of j = band_accepted j (length rows) (length work)

  abbrev next_of : Job → Job
  next_of j = band_job j (length rows) (length work)

  abbrev work_of : Job → List ℕ
  work_of j = band_work j rows work

  pub band_no_record : (r : ℕ) {t : Option Job} → t ≡ told_by words → t ≡ None → r ≡ number InvalidRecord
      → (r ≡ number_of_band words (length rows) (length work) (length count))
      × ((words ≡ record_after_band words (length rows) (length work) (length count))
      × ((work ≡ work_after_band words rows work (length count)) × (count ≡ count_after_band words (length rows) (length work) count)))
  unfolding number_of_band record_after_band work_after_band count_after_band
  band_no_record r e f h = offers.none_told words work count lent number_of rows_of next_of work_of r e f h

  module _ (j : Job) {t : Option Job} (e : t ≡ told_by words) (f : t ≡ Some j) (said : Result ℕ Refusal) (m : answer_number said ≡ number_of j)
      (next : List ℕ) (w : next ≡ band_work j rows work) where
    once : next ≡ buffer_if (number_of j) (work_of j) work
    unfolding band_work
    once = w ∙ written_once (number_of j) _ work

    pub band_refused : (why : Refusal) (r : ℕ) → said ≡ Err why → r ≡ number why
        → (r ≡ number_of_band words (length rows) (length work) (length count))
        × ((words ≡ record_after_band words (length rows) (length work) (length count))
        × ((next ≡ work_after_band words rows work (length count)) × (count ≡ count_after_band words (length rows) (length work) count)))
    unfolding number_of_band record_after_band work_after_band count_after_band
    band_refused why r a h = offers.offer_refused words work count lent number_of rows_of next_of work_of j e f said m next once why r a h

    pub band_accepted_lem : (n : ℕ) (job : Job) (words' count' : List ℕ) → said ≡ Ok n → value_or 0 said ≡ rows_of j
        → job ≡ next_of j → words' ≡ stored_job job words → count' ≡ stored_word n count
        → (0 ≡ number_of_band words (length rows) (length work) (length count))
        × ((words' ≡ record_after_band words (length rows) (length work) (length count))
        × ((next ≡ work_after_band words rows work (length count)) × (count' ≡ count_after_band words (length rows) (length work) count)))
    unfolding number_of_band record_after_band work_after_band count_after_band
    band_accepted_lem n job words' count' a c o s u =
        offers.offer_accepted words work count lent number_of rows_of next_of work_of j e f said m next once n job words' count' a c o s u
