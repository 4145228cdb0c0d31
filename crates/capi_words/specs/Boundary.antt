-- What the C boundary adds to the layers below: its own number, tested first, and what is stored in lent words. Assumes nothing.
use Rattle.std.specs.Prelude.{ℕ, Bool, cond, not, ◌||◌, List, [], ◌∷◌, ltb}
use Rattle.pixels.specs.declared.Dimensions.{Dimensions}
use Rattle.capi_words.specs.Words.{is_layout, flag_word, stored}

-- the boundary's own number, above every number of SCOPE: a layout argument that is none, or an answer slice that is too short
abbrev pub boundary : ℕ
boundary = 100

-- tested first: the boundary's number where b, and the library's number n where not
abbrev pub boundary_first : Bool → ℕ → ℕ
boundary_first b n = cond b boundary n

-- what the boundary refuses: a layout argument that is none, or fewer words lent for the answer than it takes
abbrev pub misused : ℕ → ℕ → ℕ → Bool
misused layout lent need = not (is_layout layout) || ltb lent need

-- ---- answers in lent words
abbrev pub stored_flag : Bool → List ℕ → List ℕ
stored_flag flag words = stored (flag_word flag ∷ []) words

abbrev pub stored_size : Dimensions → List ℕ → List ℕ
stored_size size words = stored (size.width ∷ size.height ∷ []) words

abbrev pub stored_word : ℕ → List ℕ → List ℕ
stored_word word words = stored (word ∷ []) words
