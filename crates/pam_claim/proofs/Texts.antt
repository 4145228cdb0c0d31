-- Lines and words put together and taken apart again. Assumes nothing.
use Prim.Native.Nat.{ℕ, ◌≤◌}
use mathlib.Core.Path.{◌≡◌, refl, sym, ◌∙◌, ap}
use mathlib.Core.List.{List, [], ◌∷◌, ◌++◌, append-nil, append_assoc}
use native.Mathlib.Omega.{arith}
use lib.Dec.{eqb}
use lib.ListN.{length}
use Rattle.pixels.proofs.Truths.{not_true}
use Rattle.pam_text.specs.declared.Class.TheVariants.{Inside, Solid}
use Rattle.pam_text.specs.Text.{is_blank}
use Rattle.pam_text.proofs.Texts.{Whole, whole_head}
use Rattle.pam_words.specs.Words.{closed, words_from, words}
use Rattle.pam_header.specs.Header.{lines_from, lines}
use Rattle.pam_heading.specs.Heading.{spaced, ended}

-- ---- lines
line_held : (l rest held : List ℕ) → Whole Inside l → lines_from held (l ++ (10 ∷ rest)) ≡ (held ++ l) ∷ lines rest
unfolding lines_from
line_held [] rest held w = ap (λ (x : List ℕ). x ∷ lines rest) (sym (append-nil held))
line_held (b ∷ l) rest held w =
    let (e, v) = whole_head Inside b l w in
    rw (not_true (eqb b 10) e) (line_held l rest (held ++ (b ∷ [])) v ∙ ap (λ (x : List ℕ). x ∷ lines rest) (append_assoc held (b ∷ []) l))

-- every line is without a byte 10
abbrev pub AllInside : List (List ℕ) → Type 0
AllInside [] = Unit {0}
AllInside (l ∷ ls) = Whole Inside l × AllInside ls

pub lines_back : (ls : List (List ℕ)) (rest : List ℕ) → AllInside ls → lines (ended ls ++ rest) ≡ ls ++ lines rest
lines_back [] rest a = refl
lines_back (l ∷ ls) rest a =
    ap lines (append_assoc l (10 ∷ ended ls) rest)
    ∙ line_held l (ended ls ++ rest) [] a.0
    ∙ ap (λ (x : List (List ℕ)). l ∷ x) (lines_back ls rest a.1)

-- ---- words
word_held : (a b held : List ℕ) → Whole Solid a → words_from held (a ++ (32 ∷ b)) ≡ closed (held ++ a) (words b)
unfolding words_from
word_held [] b held w = ap (λ (x : List ℕ). closed x (words b)) (sym (append-nil held))
word_held (c ∷ a) b held w =
    let (e, v) = whole_head Solid c a w in
    rw (not_true (is_blank c) e) (word_held a b (held ++ (c ∷ [])) v ∙ ap (λ (x : List ℕ). closed x (words b)) (append_assoc held (c ∷ []) a))

word_last : (a held : List ℕ) → Whole Solid a → words_from held a ≡ closed (held ++ a) []
unfolding words_from
word_last [] held w = ap (λ (x : List ℕ). closed x []) (sym (append-nil held))
word_last (c ∷ a) held w =
    let (e, v) = whole_head Solid c a w in
    rw (not_true (is_blank c) e) (word_last a (held ++ (c ∷ [])) v ∙ ap (λ (x : List ℕ). closed x []) (append_assoc held (c ∷ []) a))

full : (w : List ℕ) (ws : List (List ℕ)) → 1 ≤ length w → closed w ws ≡ w ∷ ws
full [] ws h = absurd (omega arith)
full (b ∷ w) ws h = refl

pub words_back : (a b : List ℕ) → Whole Solid a → Whole Solid b → 1 ≤ length a → 1 ≤ length b → words (spaced a b) ≡ a ∷ b ∷ []
words_back a b sa sb fa fb =
    word_held a b [] sa ∙ ap (closed a) (word_last b [] sb ∙ full b [] fb) ∙ full a (b ∷ []) fa
