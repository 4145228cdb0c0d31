-- What a line of a PAM header says: nothing, a number under one of four keys, a tuple type, that the header ends, or something outside the form. Assumes nothing.
use Rattle.std.specs.Prelude.{ℕ, Bool, cond, List, [], ◌∷◌, eqb, length, get_or}
use Rattle.preview_decimal.specs.Decimal.{digits, value}
use Rattle.pam_text.specs.Text.{same_text}
use Rattle.pam_words.specs.Words.{words}
use Rattle.pam_line.specs.declared.Key.{Key}
use Rattle.pam_line.specs.declared.Key.TheVariants.{Width, Height, Depth, Maxval}
use Rattle.pam_line.specs.declared.Keyword.{Keyword}
use Rattle.pam_line.specs.declared.Keyword.TheVariants as keyword
use Rattle.pam_line.specs.declared.Said.{Said}
use Rattle.pam_line.specs.declared.Said.TheVariants as said

-- ---- the words of the form, in ASCII
abbrev pub text_p7 : List ℕ
text_p7 = 80 ∷ 55 ∷ []

abbrev pub text_width : List ℕ
text_width = 87 ∷ 73 ∷ 68 ∷ 84 ∷ 72 ∷ []

abbrev pub text_height : List ℕ
text_height = 72 ∷ 69 ∷ 73 ∷ 71 ∷ 72 ∷ 84 ∷ []

abbrev pub text_depth : List ℕ
text_depth = 68 ∷ 69 ∷ 80 ∷ 84 ∷ 72 ∷ []

abbrev pub text_maxval : List ℕ
text_maxval = 77 ∷ 65 ∷ 88 ∷ 86 ∷ 65 ∷ 76 ∷ []

abbrev pub text_tupltype : List ℕ
text_tupltype = 84 ∷ 85 ∷ 80 ∷ 76 ∷ 84 ∷ 89 ∷ 80 ∷ 69 ∷ []

abbrev pub text_endhdr : List ℕ
text_endhdr = 69 ∷ 78 ∷ 68 ∷ 72 ∷ 68 ∷ 82 ∷ []

abbrev pub text_rgb_alpha : List ℕ
text_rgb_alpha = 82 ∷ 71 ∷ 66 ∷ 95 ∷ 65 ∷ 76 ∷ 80 ∷ 72 ∷ 65 ∷ []

-- ---- what a line says
unfoldable pub keyword_of : List ℕ → Keyword
keyword_of w =
    cond (same_text w text_width) (keyword.Number Width)
    (cond (same_text w text_height) (keyword.Number Height)
    (cond (same_text w text_depth) (keyword.Number Depth)
    (cond (same_text w text_maxval) (keyword.Number Maxval)
    (cond (same_text w text_tupltype) keyword.Type
    (cond (same_text w text_endhdr) keyword.End keyword.Other)))))

-- the number that a word of digits stands for, of any length; "a number with a non-digit" is outside the form
abbrev pub numbered : Key → List ℕ → Said
numbered key w = cond (digits w (length w)) (said.Number key (value w (length w))) said.Outside

-- by the first word, and the words after it: "Another first line or word, a missing word, a surplus one (but in a tuple type)" is outside the form
abbrev pub says_by : Keyword → List (List ℕ) → Said
says_by (keyword.Number key) [] = said.Outside
says_by (keyword.Number key) (w ∷ []) = numbered key w
says_by (keyword.Number key) (w ∷ v ∷ others) = said.Outside
says_by keyword.Type [] = said.Outside
says_by keyword.Type (w ∷ []) = cond (same_text w text_rgb_alpha) said.RgbAlpha said.OtherType
says_by keyword.Type (w ∷ v ∷ others) = said.OtherType
says_by keyword.End [] = said.End
says_by keyword.End (w ∷ others) = said.Outside
says_by keyword.Other others = said.Outside

-- a line "without words" says nothing
abbrev pub words_say : List (List ℕ) → Said
words_say [] = said.Nothing
words_say (w ∷ others) = says_by (keyword_of w) others

-- "or beginning with #"
abbrev pub is_comment : List ℕ → Bool
is_comment l = eqb (get_or l 0 0) 35

unfoldable pub says : List ℕ → Said
says l = cond (is_comment l) said.Nothing (words_say (words l))
