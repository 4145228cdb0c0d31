-- Bytes of a PAM header: what a blank is, runs of bytes of one kind, and texts compared. Assumes nothing.
use Rattle.std.specs.Prelude.{ℕ, suc, Bool, true, false, not, cond, ◌&&◌, ◌||◌, List, [], ◌∷◌, leb, eqb}
use Rattle.preview_decimal.specs.Decimal.{is_digit}
use Rattle.pam_text.specs.declared.Class.{Class}
use Rattle.pam_text.specs.declared.Class.TheVariants.{Inside, Blank, Solid, Digit}

-- "blanks (bytes 9, 11 to 13, 32)"
abbrev pub is_blank : ℕ → Bool
is_blank b = eqb b 9 || (eqb b 32 || (leb 11 b && leb b 13))

-- the bytes of a line, of a gap between words, of a word, of a number
abbrev pub is_of : Class → ℕ → Bool
is_of Inside b = not (eqb b 10)
is_of Blank b = is_blank b
is_of Solid b = not (is_blank b)
is_of Digit b = is_digit b

-- how many bytes of a class the text begins with
unfoldable pub run_length : Class → List ℕ → ℕ
run_length k [] = 0
run_length k (b ∷ s) = cond (is_of k b) (suc (run_length k s)) 0

-- upper and lower case differ
unfoldable pub same_text : List ℕ → List ℕ → Bool
same_text [] [] = true
same_text [] (b ∷ t) = false
same_text (a ∷ s) [] = false
same_text (a ∷ s) (b ∷ t) = cond (eqb a b) (same_text s t) false
