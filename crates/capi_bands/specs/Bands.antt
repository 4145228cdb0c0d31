-- What jonquilsaw_band_count and jonquilsaw_band_offer tell and leave in every lent buffer, of their arguments in C's order; of a buffer that is only measured the
-- argument is its length. A number other than 0 leaves every buffer as it was. Assumes nothing.
use Rattle.std.specs.Prelude.{ℕ, List, [], ◌∷◌, ltb, length}
use Rattle.pixels.specs.Refusals.{first, buffer_if}
use Rattle.job_rules.specs.Rules.{bad_record}
use Rattle.job.specs.declared.Job.{Job}
use Rattle.job_band.specs.Bands.{next_band, band_number, band_accepted, band_job, band_work}
use Rattle.capi_record.specs.Record.{words_job, stored_job, record_first}
use Rattle.capi_words.specs.Boundary.{boundary_first, stored_word}

-- ---- jonquilsaw_band_count: the record's words, one word for the count

-- 6 of a record that breaks the rules
abbrev pub record_number : Job → ℕ
record_number j = first (bad_record j.plan j.accepted j.taken j.flag ∷ [])

-- the boundary's number where no word is lent for the count, then 6
unfoldable pub number_of_count : List ℕ → ℕ → ℕ
number_of_count words count = boundary_first (ltb count 1) (record_first words (record_number (words_job words)))

-- the rows of the next band, in the first word
unfoldable pub count_after_count : List ℕ → List ℕ → List ℕ
count_after_count words count = buffer_if (number_of_count words (length count)) (stored_word (next_band (words_job words)) count) count

-- ---- jonquilsaw_band_offer: the record's words, rows, work values, one word for the count

-- the boundary's number where no word is lent for the count, 6 where the words make no record, then the job's
unfoldable pub number_of_band : List ℕ → ℕ → ℕ → ℕ → ℕ
number_of_band words rows work count = boundary_first (ltb count 1) (record_first words (band_number (words_job words) rows work))

-- the next record in the first words
unfoldable pub record_after_band : List ℕ → ℕ → ℕ → ℕ → List ℕ
record_after_band words rows work count =
    buffer_if (number_of_band words rows work count) (stored_job (band_job (words_job words) rows work) words) words

-- the rows came in
unfoldable pub work_after_band : List ℕ → List ℕ → List ℕ → ℕ → List ℕ
work_after_band words rows work count =
    buffer_if (number_of_band words (length rows) (length work) count) (band_work (words_job words) rows work) work

-- how many were accepted, in the first word
unfoldable pub count_after_band : List ℕ → ℕ → ℕ → List ℕ → List ℕ
count_after_band words rows work count =
    buffer_if (number_of_band words rows work (length count)) (stored_word (band_accepted (words_job words) rows work) count) count
