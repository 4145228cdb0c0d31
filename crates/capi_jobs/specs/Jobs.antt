-- What jonquilsaw_start, jonquilsaw_offer and jonquilsaw_take tell and leave in every lent buffer, of their arguments in C's order; of a buffer that is only
-- measured the argument is its length. A number other than 0 leaves every buffer as it was. Assumes nothing.
use Rattle.std.specs.Prelude.{ℕ, List, ltb, length}
use Rattle.pixels.specs.Refusals.{buffer_if}
use Rattle.job_rules.specs.Rules.{start_number}
use Rattle.job.specs.Record.{fresh}
use Rattle.job.specs.Calls.{offer_number, offer_rows, offer_job, offer_work, take_number, take_job, take_out, take_work}
use Rattle.job_start.specs.Start.{start_work}
use Rattle.capi_record.specs.Record.{record_length, words_plan, words_job, stored_job, record_first}
use Rattle.capi_words.specs.Boundary.{boundary_first, misused, stored_word}

-- ---- jonquilsaw_start: source sw by sh, a layout word, the crop at x, y of cw by ch, target tw by th, work values, the record's words

-- the boundary's number for the layout word and the words lent, then 1, 2, 5
unfoldable pub number_of_start : ℕ → ℕ → ℕ → ℕ → ℕ → ℕ → ℕ → ℕ → ℕ → ℕ → ℕ → ℕ
number_of_start sw sh layout x y cw ch tw th work words =
    boundary_first (misused layout words record_length) (start_number (words_plan sw sh layout x y cw ch tw th) work)

-- both halves of the work rows cleared
unfoldable pub work_after_start : ℕ → ℕ → ℕ → ℕ → ℕ → ℕ → ℕ → ℕ → ℕ → List ℕ → ℕ → List ℕ
work_after_start sw sh layout x y cw ch tw th work words =
    buffer_if (number_of_start sw sh layout x y cw ch tw th (length work) words) (start_work (words_plan sw sh layout x y cw ch tw th) work) work

-- the fresh record in the first words
unfoldable pub record_after_start : ℕ → ℕ → ℕ → ℕ → ℕ → ℕ → ℕ → ℕ → ℕ → ℕ → List ℕ → List ℕ
record_after_start sw sh layout x y cw ch tw th work words =
    buffer_if (number_of_start sw sh layout x y cw ch tw th work (length words)) (stored_job (fresh (words_plan sw sh layout x y cw ch tw th)) words) words

-- ---- jonquilsaw_offer: the record's words, rows, work values, one word for the count

-- the boundary's number where no word is lent for the count, 6 where the words make no record, then the job's
unfoldable pub number_of_offer : List ℕ → ℕ → ℕ → ℕ → ℕ
number_of_offer words rows work count = boundary_first (ltb count 1) (record_first words (offer_number (words_job words) rows work))

-- the next record in the first words
unfoldable pub record_after_offer : List ℕ → ℕ → ℕ → ℕ → List ℕ
record_after_offer words rows work count =
    buffer_if (number_of_offer words rows work count) (stored_job (offer_job (words_job words) rows work) words) words

-- the rows accepted came in
unfoldable pub work_after_offer : List ℕ → List ℕ → List ℕ → ℕ → List ℕ
work_after_offer words rows work count =
    buffer_if (number_of_offer words (length rows) (length work) count) (offer_work (words_job words) rows work) work

-- how many were accepted, in the first word
unfoldable pub count_after_offer : List ℕ → ℕ → ℕ → List ℕ → List ℕ
count_after_offer words rows work count =
    buffer_if (number_of_offer words rows work (length count)) (stored_word (offer_rows (words_job words) rows work) count) count

-- ---- jonquilsaw_take: the record's words, the output row, work values

-- 6 where the words make no record, then the job's
unfoldable pub number_of_take : List ℕ → ℕ → ℕ → ℕ
number_of_take words out work = record_first words (take_number (words_job words) out work)

-- the next record in the first words
unfoldable pub record_after_take : List ℕ → ℕ → List ℕ → List ℕ
record_after_take words out work = buffer_if (number_of_take words out (length work)) (stored_job (take_job (words_job words) out work) words) words

-- the row
unfoldable pub out_after_take : List ℕ → List ℕ → List ℕ → List ℕ
out_after_take words out work = buffer_if (number_of_take words (length out) (length work)) (take_out (words_job words) out work) out

-- what the row leaves of the values
unfoldable pub work_after_take : List ℕ → ℕ → List ℕ → List ℕ
work_after_take words out work = buffer_if (number_of_take words out (length work)) (take_work (words_job words) out work) work
