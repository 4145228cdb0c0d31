-- The first word, then the words of what follows it, are the words of a line. Assumes nothing.
use Prim.Native.Nat.{ℕ, suc}
use mathlib.Core.Path.{◌≡◌, refl, sym, ◌∙◌, ap, ap₂}
use mathlib.Core.Bool.{Bool, true, false, cond}
use mathlib.Core.List.{List, [], ◌∷◌, ◌++◌, append-nil, append_assoc}
use native.Mathlib.Omega.{arith}
use lib.ListN.{length, take, drop}
use Rattle.pam_text.specs.declared.Class.TheVariants.{Solid}
use Rattle.pam_text.specs.Text.{is_blank, run_length}
use Rattle.pam_words.specs.Words.{closed, words_from, words, unblank, word_of, past_word}

-- one byte more
more : (b : ℕ) (s held : List ℕ) (x : Bool) → is_blank b ≡ x → words_from held (b ∷ s) ≡ cond x (closed held (words s)) (words_from (held ++ (b ∷ [])) s)
unfolding words_from
more b s held x e = rw e refl

-- ---- blanks first
blank_case : (b : ℕ) (s : List ℕ) (x : Bool) → is_blank b ≡ x → words s ≡ words (unblank s) → words (b ∷ s) ≡ words (unblank (b ∷ s))
unfolding run_length
blank_case b s true e ih = more b s [] true e ∙ rw e ih
blank_case b s false e ih = rw e refl

unblanked : (s : List ℕ) → words s ≡ words (unblank s)
unfolding run_length
unblanked [] = refl
unblanked (b ∷ s) = blank_case b s (is_blank b) refl (unblanked s)

-- ---- then a word
abbrev Ends : List ℕ → List ℕ → Type 0
Ends held t = words_from held t ≡ closed (held ++ take (run_length Solid t) t) (words (drop (run_length Solid t) t))

word_case : (b : ℕ) (t held : List ℕ) (x : Bool) → is_blank b ≡ x → Ends (held ++ (b ∷ [])) t → Ends held (b ∷ t)
unfolding run_length
word_case b t held true e ih =
    more b t held true e ∙ rw e (ap₂ closed (sym (append-nil held)) (sym (more b t [] true e)))
word_case b t held false e ih =
    let n = run_length Solid t in
    more b t held false e ∙ rw e (ih ∙ ap (λ (w : List ℕ). closed w (words (drop n t))) (append_assoc held (b ∷ []) (take n t)))

word_ends : (t held : List ℕ) → Ends held t
unfolding words_from run_length
word_ends [] held = ap (λ (w : List ℕ). closed w []) (sym (append-nil held))
word_ends (b ∷ t) held = word_case b t held (is_blank b) refl (word_ends t (held ++ (b ∷ [])))

pub words_are : (s : List ℕ) → words s ≡ closed (word_of s) (words (past_word s))
unfolding word_of past_word
words_are s = unblanked s ∙ word_ends (unblank s) []

-- ---- no word
still : (b : ℕ) (s : List ℕ) → is_blank b ≡ false → unblank (b ∷ s) ≡ b ∷ s
unfolding run_length
still b s e = rw e refl

some : (b : ℕ) (s : List ℕ) → is_blank b ≡ false → length (take (run_length Solid (b ∷ s)) (b ∷ s)) ≡ suc (length (take (run_length Solid s) s))
unfolding run_length
some b s e = rw e refl

full_case : (b : ℕ) (s : List ℕ) (x : Bool) → is_blank b ≡ x → (length (word_of s) ≡ 0 → unblank s ≡ []) → length (word_of (b ∷ s)) ≡ 0 → unblank (b ∷ s) ≡ []
unfolding run_length word_of
full_case b s true e ih z = rw e (ih (rw e at z))
full_case b s false e ih z =
    let full = ap (λ (u : List ℕ). length (take (run_length Solid u) u)) (still b s e) ∙ some b s e in
    absurd (omega (arith, sym z ∙ full))

pub all_blank : (s : List ℕ) → length (word_of s) ≡ 0 → unblank s ≡ []
unfolding run_length
all_blank [] z = refl
all_blank (b ∷ s) z = full_case b s (is_blank b) refl (all_blank s) z

-- where the first word is empty there is none
pub no_words : (s : List ℕ) → length (word_of s) ≡ 0 → words s ≡ []
unfolding words_from
no_words s z = unblanked s ∙ ap words (all_blank s z)
