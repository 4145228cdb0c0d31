-- Layouts and flags as words, and answers stored in lent words. Assumes nothing.
use Rattle.std.specs.Prelude.{ℕ, Bool, cond, List, [], ◌∷◌, ◌++◌, eqb, leb, ltb, length, get_or, drop}
use Rattle.pixels_layout.specs.declared.PixelLayout.{PixelLayout}
use Rattle.pixels_layout.specs.declared.PixelLayout.TheVariants.{Rgba8, Argb8, Bgra8}

-- ---- layouts and flags
abbrev pub layouts : List PixelLayout
layouts = Rgba8 ∷ Argb8 ∷ Bgra8 ∷ []

-- the layout that a word names; one that names none stands for the first
abbrev pub word_layout : ℕ → PixelLayout
word_layout word = get_or layouts word Rgba8

abbrev pub is_layout : ℕ → Bool
is_layout word = ltb word (length layouts)

abbrev pub layout_word : PixelLayout → ℕ
layout_word Rgba8 = 0
layout_word Argb8 = 1
layout_word Bgra8 = 2

abbrev pub flag_word : Bool → ℕ
flag_word flag = cond flag 1 0

abbrev pub is_flag : ℕ → Bool
is_flag word = leb word 1

abbrev pub word_flag : ℕ → Bool
word_flag word = eqb word 1

-- ---- answers
-- lent words after an answer was stored: its words first, the rest as it was; fewer words than it has stay as they were
unfoldable pub stored : List ℕ → List ℕ → List ℕ
stored answer words = cond (leb (length answer) (length words)) (answer ++ drop (length answer) words) words
