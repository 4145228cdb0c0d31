-- The header of a PAM picture as the writer writes it, and the numbers of the functions that do. Assumes nothing.
use Rattle.std.specs.Prelude.{ℕ, cond, List, [], ◌∷◌, ◌++◌, eqb, length, Result, Ok, Err}
use Rattle.pixels.specs.declared.Dimensions.{Dimensions}
use Rattle.pixels.specs.declared.Refusal.{Refusal}
use Rattle.pixels.specs.declared.Refusal.TheVariants.{OutputLength}
use Rattle.pixels.specs.Refusals.{Cause, first, other_length, buffer_if}
use Rattle.pixels.specs.Sizes.{wrong_size}
use Rattle.pam_line.specs.Line.{text_p7, text_width, text_height, text_depth, text_maxval, text_tupltype, text_endhdr, text_rgb_alpha}
use Rattle.pam_decimal.specs.Decimal.{decimal_of}

-- two words, "single spaces"
abbrev pub spaced : List ℕ → List ℕ → List ℕ
spaced a b = a ++ (32 ∷ b)

-- "the lines WIDTH, HEIGHT, DEPTH 4, MAXVAL 255, TUPLTYPE RGB_ALPHA", "the order just given"; "ENDHDR, then pixels"
abbrev pub heading_lines : Dimensions → List (List ℕ)
heading_lines size =
    text_p7
    ∷ spaced text_width (decimal_of size.width)
    ∷ spaced text_height (decimal_of size.height)
    ∷ spaced text_depth (52 ∷ [])
    ∷ spaced text_maxval (50 ∷ 53 ∷ 53 ∷ [])
    ∷ spaced text_tupltype text_rgb_alpha
    ∷ text_endhdr
    ∷ []

-- "Header lines end in byte 10"
abbrev pub ended : List (List ℕ) → List ℕ
ended [] = []
ended (l ∷ ls) = l ++ (10 ∷ ended ls)

unfoldable pub heading : Dimensions → List ℕ
heading size = ended (heading_lines size)

-- ---- how long it is
-- a refusal has no bytes: 0
abbrev pub length_bytes : Result ℕ Refusal → ℕ
length_bytes (Ok n) = n
length_bytes (Err why) = 0

-- the bytes of an answer with the number k
abbrev pub bytes_if : ℕ → ℕ → ℕ
bytes_if k n = cond (eqb k 0) n 0

-- ---- the header written: 1, and 4 of m bytes of output
abbrev pub heading_causes : Dimensions → ℕ → List Cause
heading_causes size m = wrong_size size ∷ other_length m (length (heading size)) OutputLength ∷ []

unfoldable pub heading_number : Dimensions → ℕ → ℕ
heading_number size m = first (heading_causes size m)

unfoldable pub heading_out : Dimensions → List ℕ → List ℕ
heading_out size out = buffer_if (heading_number size (length out)) (heading size) out
