-- Some headers, computed: what the definitions say of the causes and of their order. Assumes nothing.
use Prim.Native.Nat.{ℕ}
use mathlib.Core.Path.{◌≡◌, refl}
use mathlib.Core.List.{List, [], ◌∷◌, ◌++◌}
use Rattle.preview_decimal.specs.Decimal.{digits, value}
use Rattle.pixels.specs.Sizes.{bad_side, bad_size, size_of}
use Rattle.pam_text.specs.Text.{same_text}
use Rattle.pam_words.specs.Words.{words_from}
use Rattle.pam_line.specs.Line.{text_p7, text_width, text_height, text_depth, text_maxval, text_tupltype, text_endhdr, text_rgb_alpha, keyword_of, says}
use Rattle.pam_header.specs.Header.{lines_from, ends, before_end, end_bytes, strays, given, types, malformed, unsupported, header_number, header_size, header_start}

-- a line of a word and what follows it; the lines of a header, joined
abbrev line : List ℕ → List ℕ → List ℕ
line w after = w ++ (after ++ (10 ∷ []))

abbrev joined : List (List ℕ) → List ℕ
joined [] = []
joined (l ∷ ls) = l ++ joined ls

abbrev first : List ℕ
first = line text_p7 []

-- `WIDTH 3`, `HEIGHT 2`, `DEPTH 4`, `MAXVAL 255`, `TUPLTYPE RGB_ALPHA`, `ENDHDR`, `# `
abbrev wide : List ℕ
wide = line text_width (32 ∷ 51 ∷ [])

abbrev high : List ℕ
high = line text_height (32 ∷ 50 ∷ [])

abbrev deep : List ℕ
deep = line text_depth (32 ∷ 52 ∷ [])

abbrev most : List ℕ
most = line text_maxval (32 ∷ 50 ∷ 53 ∷ 53 ∷ [])

abbrev kind : List ℕ
kind = line text_tupltype (32 ∷ text_rgb_alpha)

abbrev end : List ℕ
end = line text_endhdr []

abbrev note : List ℕ
note = line (35 ∷ []) (32 ∷ [])

-- `DEPTH 3`, `WIDTH 0`, `WIDTH 16385`, `DEPTH`
abbrev deep3 : List ℕ
deep3 = line text_depth (32 ∷ 51 ∷ [])

abbrev wide0 : List ℕ
wide0 = line text_width (32 ∷ 48 ∷ [])

abbrev wide16385 : List ℕ
wide16385 = line text_width (32 ∷ 49 ∷ 54 ∷ 51 ∷ 56 ∷ 53 ∷ [])

abbrev bare : List ℕ
bare = line text_depth []

-- the lines of a header, and its number
pub record Trial : Type 0 where
  pub header : List (List ℕ)
  pub number : ℕ

abbrev trial : List (List ℕ) → ℕ → Trial
trial header number = record { header = header; number = number }

abbrev trials : List Trial
trials =
    -- in any order, with a comment
    trial (first ∷ deep ∷ note ∷ kind ∷ high ∷ most ∷ wide ∷ end ∷ []) 0
    -- no first line; no end; ENDHDR without its byte 10; a key missing; one given twice; a number missing, before 12
    ∷ trial (wide ∷ high ∷ deep ∷ most ∷ kind ∷ end ∷ []) 11
    ∷ trial (first ∷ wide ∷ high ∷ deep ∷ most ∷ kind ∷ []) 11
    ∷ trial (first ∷ wide ∷ high ∷ deep ∷ most ∷ kind ∷ text_endhdr ∷ []) 11
    ∷ trial (first ∷ wide ∷ high ∷ most ∷ kind ∷ end ∷ []) 11
    ∷ trial (first ∷ wide ∷ wide ∷ high ∷ deep ∷ most ∷ kind ∷ end ∷ []) 11
    ∷ trial (first ∷ wide ∷ high ∷ bare ∷ most ∷ end ∷ []) 11
    -- another depth, before 1; two types; none
    ∷ trial (first ∷ wide0 ∷ high ∷ deep3 ∷ most ∷ kind ∷ end ∷ []) 12
    ∷ trial (first ∷ wide ∷ high ∷ deep ∷ most ∷ kind ∷ kind ∷ end ∷ []) 12
    ∷ trial (first ∷ wide ∷ high ∷ deep ∷ most ∷ end ∷ []) 12
    -- a side
    ∷ trial (first ∷ wide0 ∷ high ∷ deep ∷ most ∷ kind ∷ end ∷ []) 1
    ∷ trial (first ∷ wide16385 ∷ high ∷ deep ∷ most ∷ kind ∷ end ∷ []) 1
    ∷ []

abbrev AllHold : List Trial → Type 0
AllHold [] = Unit {0}
AllHold (t ∷ ts) = (header_number (joined t.header) ≡ t.number) × AllHold ts

pub all_hold : AllHold trials
unfolding header_number malformed unsupported lines_from ends before_end strays given types says words_from keyword_of same_text digits value bad_size bad_side
all_hold = (refl, (refl, (refl, (refl, (refl, (refl, (refl, (refl, (refl, (refl, (refl, (refl, tt))))))))))))

-- size and place of the first of them, with bytes after it
abbrev some : List ℕ
some = joined (first ∷ deep ∷ note ∷ kind ∷ high ∷ most ∷ wide ∷ end ∷ []) ++ (1 ∷ 10 ∷ 3 ∷ [])

pub some_holds : (header_size some ≡ size_of 3 2) × (header_start some ≡ 68)
unfolding header_size header_start header_number malformed unsupported lines_from ends before_end end_bytes strays given types says words_from keyword_of same_text digits value bad_size
    bad_side
some_holds = (refl, refl)
