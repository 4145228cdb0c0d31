-- What packing and unpacking tell C and leave in every lent buffer, of their arguments in C's order; of a buffer that is only measured the argument is its
-- length. A number other than 0 leaves every buffer as it was. Assumes nothing.
use Rattle.std.specs.Prelude.{ℕ, not, List, ltb, length}
use Rattle.pixels.specs.Refusals.{buffer_if}
use Rattle.pixels_layout.specs.Layout.{packed_pixels, unpacked_pixels, pack_number, unpack_number}
use Rattle.pixels_alpha.specs.Alpha.{argb_has_alpha}
use Rattle.capi_words.specs.Words.{word_layout, is_layout}
use Rattle.capi_words.specs.Boundary.{boundary_first, stored_flag}

-- the boundary's number of a layout word that names none, then the library's number n
abbrev pub layout_first : ℕ → ℕ → ℕ
layout_first layout n = boundary_first (not (is_layout layout)) n

-- ---- jonquilsaw_pack_pixels: a layout word, the values, the output
unfoldable pub number_of_pack : ℕ → ℕ → ℕ → ℕ
number_of_pack layout argb out = layout_first layout (pack_number argb out)

-- the values packed
unfoldable pub out_after_pack : ℕ → List ℕ → List ℕ → List ℕ
out_after_pack layout argb out = buffer_if (number_of_pack layout (length argb) (length out)) (packed_pixels (word_layout layout) argb) out

-- ---- jonquilsaw_unpack_pixels: a layout word, the bytes, the values
unfoldable pub number_of_unpack : ℕ → ℕ → ℕ → ℕ
number_of_unpack layout bytes argb = layout_first layout (unpack_number bytes argb)

-- the bytes unpacked
unfoldable pub argb_after_unpack : ℕ → List ℕ → List ℕ → List ℕ
argb_after_unpack layout bytes argb = buffer_if (number_of_unpack layout (length bytes) (length argb)) (unpacked_pixels (word_layout layout) bytes) argb

-- ---- jonquilsaw_argb_has_alpha: the values, one word for the flag
unfoldable pub number_of_argb_has_alpha : ℕ → ℕ
number_of_argb_has_alpha flag = boundary_first (ltb flag 1) 0

-- the flag of the values in the first word
unfoldable pub flag_after_argb_has_alpha : List ℕ → List ℕ → List ℕ
flag_after_argb_has_alpha argb flag = buffer_if (number_of_argb_has_alpha (length flag)) (stored_flag (argb_has_alpha argb) flag) flag
