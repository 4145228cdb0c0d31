-- What jonquilsaw_start_group, jonquilsaw_offer_group and jonquilsaw_take_group tell and leave in every lent buffer, of their arguments in C's order; of a buffer
-- that is only measured the argument is its length. A number other than 0 leaves every buffer as it was. Assumes nothing.
use Rattle.std.specs.Prelude.{ℕ, not, List, ltb, length}
use Rattle.pixels.specs.Refusals.{buffer_if}
use Rattle.group_rules.specs.Group.{looked}
use Rattle.group_rules.specs.Tests.{group_start_number, group_offer_number, group_take_number}
use Rattle.group_start.specs.Start.{group_started, group_start_work}
use Rattle.group.specs.Calls.{group_offer_rows, group_offered, group_offer_work, group_taken, group_take_out, group_take_work}
use Rattle.capi_words.specs.Boundary.{boundary_first, stored_word}
use Rattle.capi_group_record.specs.GroupRecord.{plans_legal, plans_of, words_group, stored_group, group_first}

-- ---- jonquilsaw_start_group: the words of plans, how many jobs, work values, the record's words

-- the boundary's number for the words of the plans that a start looks at and for the record's words lent, then 1, 10, 2, 13, 14, 5
unfoldable pub number_of_start_group : List ℕ → ℕ → ℕ → ℕ → ℕ
number_of_start_group plans count work words =
    boundary_first (not (plans_legal plans (looked count) words)) (group_start_number (plans_of plans (looked count)) count work)

-- the parts of all jobs cleared
unfoldable pub work_after_start_group : List ℕ → ℕ → List ℕ → ℕ → List ℕ
work_after_start_group plans count work words =
    buffer_if (number_of_start_group plans count (length work) words) (group_start_work (plans_of plans (looked count)) count work) work

-- the fresh group in the first words
unfoldable pub record_after_start_group : List ℕ → ℕ → ℕ → List ℕ → List ℕ
record_after_start_group plans count work words =
    buffer_if (number_of_start_group plans count work (length words)) (stored_group (group_started (plans_of plans (looked count)) count work) words) words

-- ---- jonquilsaw_offer_group: the record's words, rows, work values, one word for the rows accepted

-- the boundary's number where no word is lent for the rows accepted, 6 where the words make no group, then the group's
unfoldable pub number_of_offer_group : List ℕ → ℕ → ℕ → ℕ → ℕ
number_of_offer_group words rows work accepted = boundary_first (ltb accepted 1) (group_first words (group_offer_number (words_group words) rows work))

-- the next group in the first words
unfoldable pub record_after_offer_group : List ℕ → ℕ → ℕ → ℕ → List ℕ
record_after_offer_group words rows work accepted =
    buffer_if (number_of_offer_group words rows work accepted) (stored_group (group_offered (words_group words) rows work) words) words

-- the rows accepted came in
unfoldable pub work_after_offer_group : List ℕ → List ℕ → List ℕ → ℕ → List ℕ
work_after_offer_group words rows work accepted =
    buffer_if (number_of_offer_group words (length rows) (length work) accepted) (group_offer_work (words_group words) rows work) work

-- how many were accepted, in the first word
unfoldable pub accepted_after_offer_group : List ℕ → ℕ → ℕ → List ℕ → List ℕ
accepted_after_offer_group words rows work accepted =
    buffer_if (number_of_offer_group words rows work (length accepted)) (stored_word (group_offer_rows (words_group words) rows work) accepted) accepted

-- ---- jonquilsaw_take_group: the record's words, which job, the output row, work values

-- 6 where the words make no group, then the group's
unfoldable pub number_of_take_group : List ℕ → ℕ → ℕ → ℕ → ℕ
number_of_take_group words job out work = group_first words (group_take_number (words_group words) job out work)

-- the next group in the first words
unfoldable pub record_after_take_group : List ℕ → ℕ → ℕ → List ℕ → List ℕ
record_after_take_group words job out work =
    buffer_if (number_of_take_group words job out (length work)) (stored_group (group_taken (words_group words) job out work) words) words

-- the row
unfoldable pub out_after_take_group : List ℕ → ℕ → List ℕ → List ℕ → List ℕ
out_after_take_group words job out work =
    buffer_if (number_of_take_group words job (length out) (length work)) (group_take_out (words_group words) job out work) out

-- what the row leaves of the values
unfoldable pub work_after_take_group : List ℕ → ℕ → ℕ → List ℕ → List ℕ
work_after_take_group words job out work =
    buffer_if (number_of_take_group words job out (length work)) (group_take_work (words_group words) job out work) work
