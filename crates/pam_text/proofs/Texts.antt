-- Runs of bytes and texts compared, as the library counts and compares, and byte by byte; runs that are whole lists. Assumes nothing.
use Prim.Native.Nat.{ℕ, zero, suc, ◌+◌, ◌≤◌, ◌<◌}
use mathlib.Core.Path.{◌≡◌, refl, sym, ◌∙◌, ap}
use mathlib.Core.Bool.{Bool, true, false, cond, ◌&&◌, and-true, and_assoc}
use mathlib.Core.List.{List, [], ◌∷◌, ◌++◌}
use native.Mathlib.Omega.{arith}
use native.Mathlib.Numerals.{add-one}
use lib.Dec.{eqb, eqb-zero-suc, eqb-suc-suc}
use lib.ListN.{length, get_or, drop, length-drop, drop_of_length-le}
use lib.Pointwise.{pointwise}
use lib.Seq.{drop-cons}
use borrow.Author.Tests.{eq-eqb, ne_eqb, eqb-true, eqb-false}
use Rattle.std.specs.List.{prefix_len}
use Rattle.preview_decimal.specs.Decimal.{is_digit, digits}
use Rattle.pam_text.specs.declared.Class.{Class}
use Rattle.pam_text.specs.declared.Class.TheVariants.{Digit}
use Rattle.pam_text.specs.Text.{is_of, run_length, same_text}

-- ---- what the library counts and compares
module _ (k : Class) where
  pub run_is : (s : List ℕ) → prefix_len (is_of k) s ≡ run_length k s
  unfolding run_length
  run_is [] = refl
  run_is (b ∷ s) = ap (λ (n : ℕ). cond (is_of k b) n 0) {x = 1 + prefix_len (is_of k) s} {y = suc (run_length k s)} (omega (arith, run_is s))

same_cons : (x y z : Bool) → y ≡ z → (x && y) ≡ cond x z false
same_cons true y z e = e
same_cons false y z e = refl

pub same_is : (s t : List ℕ) → pointwise eqb s t ≡ same_text s t
unfolding same_text
same_is [] [] = refl
same_is [] (b ∷ t) = refl
same_is (a ∷ s) [] = refl
same_is (a ∷ s) (b ∷ t) = same_cons (eqb a b) (pointwise eqb s t) (same_text s t) (same_is s t)

drop_zero : (s : List ℕ) → drop 0 s ≡ s
drop_zero s = refl

pub drop_step : (s : List ℕ) (i : ℕ) → i < length s → drop i s ≡ get_or s i 0 ∷ drop (i + 1) s
drop_step s i h = rw add-one (drop-cons s i 0 h)

-- ---- a run read byte by byte: the whole run is what i bytes of it gave and the rest's
run_in : (k : Class) (b : ℕ) (s : List ℕ) → is_of k b ≡ true → run_length k (b ∷ s) ≡ suc (run_length k s)
unfolding run_length
run_in k b s e = rw e refl

run_out : (k : Class) (b : ℕ) (s : List ℕ) → is_of k b ≡ false → run_length k (b ∷ s) ≡ 0
unfolding run_length
run_out k b s e = rw e refl

run_none : (k : Class) → run_length k [] ≡ 0
unfolding run_length
run_none k = refl

pub record Run (k : Class) (s : List ℕ) (i : ℕ) : Type 0 where
  pub within : i ≤ length s
  pub rest : run_length k s ≡ i + run_length k (drop i s)

pub run_first : (k : Class) (s : List ℕ) → Run k s 0
run_first k s = record { within = omega arith; rest = omega (arith, ap (run_length k) (drop_zero s)) }

module _ {k : Class} {s : List ℕ} {i : ℕ} (r : Run k s i) where
  pub run_turn : i < length s → is_of k (get_or s i 0) ≡ true → Run k s (i + 1)
  run_turn h e = record { within = omega arith; rest = omega (arith, r.rest, ap (run_length k) (drop_step s i h), run_in k (get_or s i 0) (drop (i + 1) s) e) }

  pub run_stop : i < length s → is_of k (get_or s i 0) ≡ false → i ≡ run_length k s
  run_stop h e = omega (arith, r.rest, ap (run_length k) (drop_step s i h), run_out k (get_or s i 0) (drop (i + 1) s) e)

  pub run_done : length s ≤ i → i ≡ run_length k s
  run_done h = omega (arith, r.rest, ap (run_length k) (drop_of_length-le s {i = i} h), run_none k)

-- ---- two texts compared byte by byte: after i bytes that agree the texts are the same where their rests are. The library compares here; these are the
-- laws of a loop that does
pub record Alike (s t : List ℕ) (i : ℕ) : Type 0 where
  pub within : i ≤ length s
  pub other : i ≤ length t
  pub rest : same_text s t ≡ same_text (drop i s) (drop i t)

pub alike_first : (s t : List ℕ) → Alike s t 0
alike_first s t = record { within = omega arith; other = omega arith; rest = refl }

cons_same : (a b : ℕ) (s t : List ℕ) (x : Bool) → eqb a b ≡ x → same_text (a ∷ s) (b ∷ t) ≡ cond x (same_text s t) false
unfolding same_text
cons_same a b s t x e = rw e refl

same_short : (a : ℕ) (s : List ℕ) → same_text (a ∷ s) [] ≡ false
unfolding same_text
same_short a s = refl

same_none : (t : List ℕ) (x : Bool) → eqb 0 (length t) ≡ x → same_text [] t ≡ x
unfolding same_text
same_none [] x e = e
same_none (b ∷ t) x e = sym (ne_eqb 0 (suc (length t)) (λ z. omega arith)) ∙ e

module _ {s t : List ℕ} {i : ℕ} (r : Alike s t i) where
  pub alike_short : i < length s → length t ≤ i → false ≡ same_text s t
  alike_short h g =
      sym (r.rest ∙ ap (λ (x : List ℕ). same_text x (drop i t)) (drop_step s i h) ∙ ap (same_text (get_or s i 0 ∷ drop (i + 1) s)) (drop_of_length-le t {i = i} g)
      ∙ same_short (get_or s i 0) (drop (i + 1) s))

  both : (x : Bool) → i < length s → i < length t → eqb (get_or s i 0) (get_or t i 0) ≡ x → same_text s t ≡ cond x (same_text (drop (i + 1) s) (drop (i + 1) t)) false
  both x h g e =
      r.rest ∙ ap (λ (y : List ℕ). same_text y (drop i t)) (drop_step s i h) ∙ ap (same_text (get_or s i 0 ∷ drop (i + 1) s)) (drop_step t i g)
      ∙ cons_same (get_or s i 0) (get_or t i 0) (drop (i + 1) s) (drop (i + 1) t) x e

  pub alike_differ : i < length s → i < length t → (get_or s i 0 ≡ get_or t i 0 → ⊥) → false ≡ same_text s t
  alike_differ h g d = sym (both false h g (ne_eqb (get_or s i 0) (get_or t i 0) d))

  pub alike_turn : i < length s → i < length t → get_or s i 0 ≡ get_or t i 0 → Alike s t (i + 1)
  alike_turn h g e = record { within = omega arith; other = omega arith; rest = both true h g (eq-eqb (get_or s i 0) (get_or t i 0) e) }

  pub alike_done : length s ≤ i → (x : Bool) → eqb i (length t) ≡ x → x ≡ same_text s t
  alike_done h x e =
      sym (r.rest ∙ ap (λ (y : List ℕ). same_text y (drop i t)) (drop_of_length-le s {i = i} h) ∙ same_none (drop i t) x (left x e))
    where
      left : (x : Bool) → eqb i (length t) ≡ x → eqb 0 (length (drop i t)) ≡ x
      left true f = eq-eqb 0 (length (drop i t)) (omega (arith, length-drop i t, r.other, eqb-true i (length t) f))
      left false f = ne_eqb 0 (length (drop i t)) (λ z. eqb-false i (length t) f (omega (arith, length-drop i t, r.other)))

-- ---- a run that is the whole list: every byte is of the class
abbrev pub Whole : Class → List ℕ → Type 0
Whole k s = run_length k s ≡ length s

pub whole_nil : (k : Class) → Whole k []
unfolding run_length
whole_nil k = refl

pub whole_cons : (k : Class) (b : ℕ) (s : List ℕ) → is_of k b ≡ true → Whole k s → Whole k (b ∷ s)
unfolding run_length
whole_cons k b s e w = rw e (ap suc w)

head_case : (k : Class) (b : ℕ) (s : List ℕ) (x : Bool) → is_of k b ≡ x → Whole k (b ∷ s) → (is_of k b ≡ true) × Whole k s
unfolding run_length
head_case k b s true e w = (e, omega (arith, rw e at w))
head_case k b s false e w = absurd (omega (arith, rw e at w))

pub whole_head : (k : Class) (b : ℕ) (s : List ℕ) → Whole k (b ∷ s) → (is_of k b ≡ true) × Whole k s
whole_head k b s w = head_case k b s (is_of k b) refl w

pub whole_append : (k : Class) (s t : List ℕ) → Whole k s → Whole k t → Whole k (s ++ t)
whole_append k [] t w v = v
whole_append k (b ∷ s) t w v = let (e, u) = whole_head k b s w in whole_cons k b (s ++ t) e (whole_append k s t u v)

-- ---- digits, all of them
digits_cons : (b : ℕ) (s : List ℕ) (k : ℕ) → digits (b ∷ s) (suc k) ≡ (is_digit b && digits s k)
unfolding digits
digits_cons b s zero = sym (and-true (is_digit b))
digits_cons b s (suc k) = rw (digits_cons b s k) (and_assoc (is_digit b) (digits s k) (is_digit (get_or s k 0)))

digits_case : (b : ℕ) (s : List ℕ) (x : Bool) → is_digit b ≡ x → eqb (run_length Digit s) (length s) ≡ digits s (length s) → eqb (run_length Digit (b ∷ s)) (suc (length s)) ≡ (is_digit b && digits s (length s))
unfolding run_length
digits_case b s true e ih = rw e (eqb-suc-suc (run_length Digit s) (length s) ∙ ih)
digits_case b s false e ih = rw e (eqb-zero-suc (length s))

-- the run of digits is the whole exactly if every byte is a digit
pub all_digits : (s : List ℕ) → eqb (run_length Digit s) (length s) ≡ digits s (length s)
unfolding run_length digits
all_digits [] = refl
all_digits (b ∷ s) = digits_case b s (is_digit b) refl (all_digits s) ∙ sym (digits_cons b s (length s))
