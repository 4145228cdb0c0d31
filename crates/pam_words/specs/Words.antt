-- The words of a line: all of them, and the first and what follows it. Assumes nothing.
use Rattle.std.specs.Prelude.{ℕ, cond, List, [], ◌∷◌, ◌++◌, take, drop}
use Rattle.pam_text.specs.declared.Class.TheVariants.{Blank, Solid}
use Rattle.pam_text.specs.Text.{is_blank, run_length}

-- a word has ended, and others follow; where none was begun there is none
abbrev pub closed : List ℕ → List (List ℕ) → List (List ℕ)
closed [] others = others
closed (b ∷ w) others = (b ∷ w) ∷ others

-- "words parted by blanks": the longest runs of bytes that are no blanks. What is held of a word so far goes along
unfoldable pub words_from : List ℕ → List ℕ → List (List ℕ)
words_from held [] = closed held []
words_from held (b ∷ s) = cond (is_blank b) (closed held (words_from [] s)) (words_from (held ++ (b ∷ [])) s)

abbrev pub words : List ℕ → List (List ℕ)
words s = words_from [] s

-- ---- one word after the other (that the first, then the words of what follows it, are `words`: proofs/WordByWord)

-- from the first byte that is no blank
abbrev pub unblank : List ℕ → List ℕ
unblank s = drop (run_length Blank s) s

-- the first word, empty where there is none; and what follows it
unfoldable pub word_of : List ℕ → List ℕ
word_of s = take (run_length Solid (unblank s)) (unblank s)

unfoldable pub past_word : List ℕ → List ℕ
past_word s = drop (run_length Solid (unblank s)) (unblank s)
