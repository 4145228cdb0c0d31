-- What the writer of PAM pictures tells C and leaves in every lent buffer, of its arguments in C's order; of a buffer that is only measured the argument is
-- its length. A number other than 0 leaves every buffer as it was. Assumes nothing.
use Rattle.std.specs.Prelude.{ℕ, List, ltb, length}
use Rattle.pixels.specs.Refusals.{buffer_if}
use Rattle.pixels.specs.Sizes.{size_of, size_number}
use Rattle.pam_heading.specs.Heading.{heading, heading_number, heading_out}
use Rattle.pam_writing.specs.Writing.{file_bytes, write_number, write_out}
use Rattle.capi_words.specs.Boundary.{boundary_first, stored_word}

-- ---- jonquilsaw_pam_header_length, jonquilsaw_pam_length: a size, one word for the bytes
unfoldable pub number_of_pam_length : ℕ → ℕ → ℕ → ℕ
number_of_pam_length width height bytes = boundary_first (ltb bytes 1) (size_number (size_of width height))

-- the length of the header in the first word
unfoldable pub bytes_after_pam_header_length : ℕ → ℕ → List ℕ → List ℕ
bytes_after_pam_header_length width height bytes =
    buffer_if (number_of_pam_length width height (length bytes)) (stored_word (length (heading (size_of width height))) bytes) bytes

-- the length of the file
unfoldable pub bytes_after_pam_length : ℕ → ℕ → List ℕ → List ℕ
bytes_after_pam_length width height bytes = buffer_if (number_of_pam_length width height (length bytes)) (stored_word (file_bytes (size_of width height)) bytes) bytes

-- ---- jonquilsaw_write_pam_header: a size, the output
abbrev pub number_of_write_pam_header : ℕ → ℕ → ℕ → ℕ
number_of_write_pam_header width height out = heading_number (size_of width height) out

abbrev pub out_after_write_pam_header : ℕ → ℕ → List ℕ → List ℕ
out_after_write_pam_header width height out = heading_out (size_of width height) out

-- ---- jonquilsaw_write_pam: a size, the pixels, the output
abbrev pub number_of_write_pam : ℕ → ℕ → ℕ → ℕ → ℕ
number_of_write_pam width height pixels out = write_number (size_of width height) pixels out

abbrev pub out_after_write_pam : ℕ → ℕ → List ℕ → List ℕ → List ℕ
out_after_write_pam width height pixels out = write_out (size_of width height) pixels out
