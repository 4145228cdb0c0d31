-- What the program makes of a line's first three words is what the line says. Assumes nothing.
use Prim.Native.Nat.{ℕ, min, ◌≤◌, ◌<◌}
use mathlib.Core.Path.{◌≡◌, refl, sym, ◌∙◌, ap, ap₂}
use mathlib.Core.Bool.{Bool, true, false, cond, ◌&&◌}
use mathlib.Core.List.{List, [], ◌∷◌}
use native.Mathlib.Omega.{arith}
use lib.Dec.{eqb, ltb, eqb-suc-zero}
use lib.ListN.{length, length-take, length-drop}
use borrow.Author.Tests.{eq-eqb, ne_eqb, eqb-true, eqb-false, ltb-true, ltb-false}
use Rattle.std.specs.List.{starts_with}
use Rattle.std.proofs.Common.{Option, Some, None}
use Rattle.std.specs.Option.{unwrap_or}
use Rattle.preview_decimal.specs.Decimal.{digits, value, none, decimal, decimal_value}
use Rattle.pam_text.specs.declared.Class.TheVariants.{Blank, Solid, Digit}
use Rattle.pam_text.specs.Text.{run_length, same_text}
use Rattle.pam_text.proofs.Texts.{all_digits}
use Rattle.pam_words.specs.Words.{closed, words, unblank, word_of, past_word}
use Rattle.pam_words.proofs.WordByWord.{words_are, all_blank, no_words}
use Rattle.pam_line.specs.Line.{text_rgb_alpha, keyword_of, says_by, words_say, is_comment, says}
use Rattle.pam_line.specs.Inner.{cut, held, number_said, type_said, said_of}
use Rattle.pam_line.specs.declared.Key.{Key}
use Rattle.pam_line.specs.declared.Keyword.{Keyword}
use Rattle.pam_line.specs.declared.Keyword.TheVariants as keyword
use Rattle.pam_line.specs.declared.Said.TheVariants as said

-- ---- a number
module _ (key : Key) (a b : List ℕ) (n : ℕ) (run : n ≡ run_length Digit a) where
  digits_are : (x : Bool) → eqb n (length a) ≡ x → digits a (length a) ≡ x
  digits_are x e = sym (all_digits a) ∙ ap (λ (k : ℕ). eqb k (length a)) (sym run) ∙ e

  outside : (x y : Bool) → said.Outside ≡ cond x said.Outside (cond y said.Outside said.Outside)
  outside true y = refl
  outside false true = refl
  outside false false = refl

  pub number_letter : (n ≡ length a → ⊥) → said.Outside ≡ number_said key a b
  unfolding number_said
  number_letter d = rw (digits_are false (ne_eqb n (length a) d)) (outside (eqb (length a) 0) (eqb (length b) 0))

  module _ (full : eqb (length a) 0 ≡ false) (alone : eqb (length b) 0 ≡ true) (e : n ≡ length a) where
    good : digits a (length a) ≡ true
    good = digits_are true (eq-eqb n (length a) e)

    number_is : (v : ℕ) → v ≡ cut (value a (length a)) → said.Number key v ≡ number_said key a b
    unfolding number_said
    number_is v g = ap (said.Number key) g ∙ simp (full, alone, good)

    whole : decimal a ≡ min (value a (length a)) none
    whole = simp (full, good)

    told : (x : Bool) → ltb (decimal a) none ≡ x → unwrap_or (cond x (Some (decimal a)) None) 4294967295 ≡ cut (value a (length a))
    told true f = omega (arith, whole, ltb-true (decimal a) none f)
    told false f = omega (arith, whole, ltb-false (decimal a) none f)

    pub number_alone : (o : Option ℕ) (v : ℕ) → o ≡ decimal_value a → v ≡ unwrap_or o 4294967295 → said.Number key v ≡ number_said key a b
    number_alone o v is f = number_is v (f ∙ ap (λ (p : Option ℕ). unwrap_or p 4294967295) is ∙ told (ltb (decimal a) none) refl)

-- ---- the words after the first, by the second and the third
held_digits : (key : Key) (v : ℕ) (x : Bool) → cond x (said.Number key (cut v)) said.Outside ≡ held (cond x (said.Number key v) said.Outside)
held_digits key v true = refl
held_digits key v false = refl

held_type : (x : Bool) → cond x said.RgbAlpha said.OtherType ≡ held (cond x said.RgbAlpha said.OtherType)
held_type true = refl
held_type false = refl

none_more : (k : Keyword) (b : List ℕ) → said_of k [] b ≡ held (says_by k [])
unfolding number_said type_said
none_more (keyword.Number key) b = refl
none_more keyword.Type b = refl
none_more keyword.End b = refl
none_more keyword.Other b = refl

one_more : (k : Keyword) (x : ℕ) (a : List ℕ) → said_of k (x ∷ a) [] ≡ held (says_by k ((x ∷ a) ∷ []))
unfolding number_said type_said
one_more (keyword.Number key) x a = rw (eqb-suc-zero (length a)) (held_digits key (value (x ∷ a) (length (x ∷ a))) (digits (x ∷ a) (length (x ∷ a))))
one_more keyword.Type x a = rw (eqb-suc-zero (length a)) (held_type (same_text (x ∷ a) text_rgb_alpha))
one_more keyword.End x a = rw (eqb-suc-zero (length a)) refl
one_more keyword.Other x a = refl

two_more : (k : Keyword) (x : ℕ) (a : List ℕ) (y : ℕ) (b : List ℕ) (others : List (List ℕ)) → said_of k (x ∷ a) (y ∷ b) ≡ held (says_by k ((x ∷ a) ∷ (y ∷ b) ∷ others))
unfolding number_said type_said
two_more (keyword.Number key) x a y b others = rw (eqb-suc-zero (length a)) (rw (eqb-suc-zero (length b)) refl)
two_more keyword.Type x a y b others = rw (eqb-suc-zero (length a)) (rw (eqb-suc-zero (length b)) refl)
two_more keyword.End x a y b others = rw (eqb-suc-zero (length a)) refl
two_more keyword.Other x a y b others = refl

-- a is the first of the words ws, b the first of those after it
said_by :
    (k : Keyword) (a b : List ℕ) (ws vs others : List (List ℕ)) → ws ≡ closed a vs → (length a ≡ 0 → ws ≡ []) → vs ≡ closed b others → (length b ≡ 0 → vs ≡ [])
    → said_of k a b ≡ held (says_by k ws)
said_by k [] b ws vs others e n f m = none_more k b ∙ sym (ap (λ (w : List (List ℕ)). held (says_by k w)) (n refl))
said_by k (x ∷ a) [] ws vs others e n f m =
    one_more k x a ∙ sym (ap (λ (w : List (List ℕ)). held (says_by k w)) (e ∙ ap (closed (x ∷ a)) (m refl)))
said_by k (x ∷ a) (y ∷ b) ws vs others e n f m =
    two_more k x a y b others ∙ sym (ap (λ (w : List (List ℕ)). held (says_by k w)) (e ∙ ap (closed (x ∷ a)) f))

-- ---- the line
hash_case : (b : ℕ) (x : Bool) → eqb b 35 ≡ x → (eqb 35 b && true) ≡ x
hash_case b true e = simp (eq-eqb 35 b (sym (eqb-true b 35 e)))
hash_case b false e = simp (ne_eqb 35 b (λ z. eqb-false b 35 e (sym z)))

pub hash_is : (l : List ℕ) → starts_with eqb l (35 ∷ []) ≡ is_comment l
hash_is [] = refl
hash_is (b ∷ l) = hash_case b (eqb b 35) refl

comment_says : (l : List ℕ) (x : Bool) → is_comment l ≡ x → cond x said.Nothing (words_say (words l)) ≡ says l
unfolding says
comment_says l x e = rw e refl

pub says_comment : (l : List ℕ) → is_comment l ≡ true → said.Nothing ≡ held (says l)
says_comment l e = ap held (comment_says l true e)

module _ (l : List ℕ) (plain : is_comment l ≡ false) where
  by_words : says l ≡ words_say (words l)
  by_words = sym (comment_says l false plain)

  pub says_blank : (w : List ℕ) → w ≡ word_of l → length w ≡ 0 → said.Nothing ≡ held (says l)
  says_blank w e z = sym (ap held (by_words ∙ ap words_say (no_words l (sym (ap length e) ∙ z))))

  pub says_words :
      (w rest a more b : List ℕ) (k : Keyword) → w ≡ word_of l → (length w ≡ 0 → ⊥) → k ≡ keyword_of w → rest ≡ past_word l → a ≡ word_of rest → more ≡ past_word rest → b ≡ word_of more
      → said_of k a b ≡ held (says l)
  says_words w rest a more b k ew full ek er ea em eb =
      let by = said_by k a b (words rest) (words more) (words (past_word more)) (word_first rest a more ea em) (λ z. no_words rest (sym (ap length ea) ∙ z)) (word_first more b (past_word more) eb refl) (λ z. no_words more (sym (ap length eb) ∙ z)) in
      by ∙ sym (ap held (by_words ∙ ap words_say (word_first l w rest ew er) ∙ first w k full ek (words rest)))
    where
      word_first : (s v t : List ℕ) → v ≡ word_of s → t ≡ past_word s → words s ≡ closed v (words t)
      word_first s v t ev et = words_are s ∙ sym (ap₂ (λ (x y : List ℕ). closed x (words y)) ev et)

      first : (v : List ℕ) (j : Keyword) → (length v ≡ 0 → ⊥) → j ≡ keyword_of v → (ws : List (List ℕ)) → words_say (closed v ws) ≡ says_by j ws
      first [] j n ej ws = absurd (n refl)
      first (x ∷ v) j n ej ws = ap (λ (i : Keyword). says_by i ws) (sym ej)

-- ---- nothing but blanks
module _ (l : List ℕ) (n : ℕ) (run : n ≡ run_length Blank l) where
  no_word : length l ≤ n → length (word_of l) ≡ 0
  unfolding word_of
  no_word h =
      let rest = unblank l in
      omega (arith, h, run, length-take (run_length Solid rest) rest, length-drop (run_length Blank l) l)

  pub says_blanks : length l ≤ n → said.Nothing ≡ held (says l)
  says_blanks h = by_comment (is_comment l) refl
    where
      by_comment : (x : Bool) → is_comment l ≡ x → said.Nothing ≡ held (says l)
      by_comment true e = says_comment l e
      by_comment false e = says_blank l e (word_of l) refl (no_word h)

  pub word_full : (w : List ℕ) → n < length l → w ≡ word_of l → length w ≡ 0 → ⊥
  word_full w h e z = omega (arith, h, run, length-drop (run_length Blank l) l, ap length (all_blank l (sym (ap length e) ∙ z)))
