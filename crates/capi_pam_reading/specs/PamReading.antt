-- What the reader of PAM pictures tells C and leaves in every lent buffer, of its arguments in C's order; of a buffer that is only measured the argument is
-- its length. A number other than 0 leaves every buffer as it was. Assumes nothing.
use Rattle.std.specs.Prelude.{ℕ, ◌%◌, ◌/◌, List, [], ◌∷◌, ltb, length}
use Rattle.pixels.specs.declared.Dimensions.{Dimensions}
use Rattle.pixels.specs.Refusals.{buffer_if}
use Rattle.pam_header.specs.Header.{header_number, header_unfinished, size_said, pixels_from}
use Rattle.pam_reading.specs.Reading.{pam_number}
use Rattle.capi_words.specs.Words.{stored}
use Rattle.capi_words.specs.Boundary.{boundary_first, stored_flag, stored_size}

-- ---- jonquilsaw_read_pam_header: the input, four words
unfoldable pub number_of_read_pam_header : List ℕ → ℕ → ℕ
number_of_read_pam_header input answer = boundary_first (ltb answer 4) (header_number input)

-- a size, and a place as a low and a high word
abbrev pub stored_header : Dimensions → ℕ → List ℕ → List ℕ
stored_header size start words = stored (size.width ∷ size.height ∷ start % 4294967296 ∷ start / 4294967296 ∷ []) words

-- the size that the header says and the place of the first byte after it in the first four words
unfoldable pub answer_after_read_pam_header : List ℕ → List ℕ → List ℕ
answer_after_read_pam_header input answer = buffer_if (number_of_read_pam_header input (length answer)) (stored_header (size_said input) (pixels_from input) answer) answer

-- ---- jonquilsaw_pam_unfinished: the input, one word for the flag
unfoldable pub number_of_pam_unfinished : ℕ → ℕ
number_of_pam_unfinished flag = boundary_first (ltb flag 1) 0

-- in the first word, whether the input is the beginning of a header
unfoldable pub flag_after_pam_unfinished : List ℕ → List ℕ → List ℕ
flag_after_pam_unfinished input flag = buffer_if (number_of_pam_unfinished (length flag)) (stored_flag (header_unfinished input) flag) flag

-- ---- jonquilsaw_read_pam: the input, two words for the size
unfoldable pub number_of_read_pam : List ℕ → ℕ → ℕ
number_of_read_pam input size = boundary_first (ltb size 2) (pam_number input)

-- the size that the header says in the first two words
unfoldable pub size_after_read_pam : List ℕ → List ℕ → List ℕ
size_after_read_pam input size = buffer_if (number_of_read_pam input (length size)) (stored_size (size_said input) size) size
