-- What an answer by a flag or a size, stored in lent words, comes to. Assumes nothing.
use Rattle.std.specs.Prelude.{Result, Ok, Err}
use Prim.Native.Nat.{ℕ}
use mathlib.Core.Path.{◌≡◌, refl, sym, ◌∙◌}
use mathlib.Core.Bool.{Bool, true, false, cond}
use mathlib.Core.List.{[], List, ◌∷◌}
use lib.Dec.{eqb}
use Rattle.pixels.specs.declared.Dimensions.{Dimensions}
use Rattle.pixels.specs.declared.Refusal.{Refusal}
use Rattle.pixels.specs.Refusals.{number, buffer_if, flag_if, size_if, answer_number, flagged_flag, sized_size}
use Rattle.capi_words.specs.Words.{flag_word, stored}
use Rattle.capi_words.specs.Boundary.{boundary_first, stored_flag, stored_size}
use Rattle.capi_words.proofs.Boundary.{kept_by, written_by, passed}

-- ---- a flag
pub flag_refused : (answer : Result Bool Refusal) (why : Refusal) (r : ℕ) (kept : List ℕ) → answer ≡ Err why → r ≡ number why
    → (r ≡ answer_number answer) × (kept ≡ buffer_if (answer_number answer) (stored_flag (flagged_flag answer) kept) kept)
flag_refused answer why r kept e f = (rw e f, kept_by why (answer_number answer) _ kept (rw e refl))

pub flag_stored : (answer : Result Bool Refusal) (flag : Bool) (word : ℕ) (words kept : List ℕ) → answer ≡ Ok flag → word ≡ flag_word flag → words ≡ stored (word ∷ []) kept
    → (0 ≡ answer_number answer) × (words ≡ buffer_if (answer_number answer) (stored_flag (flagged_flag answer) kept) kept)
flag_stored answer flag word words kept e f s = (rw e refl, rw e (rw f at s))

same_flag : (b flag : Bool) (kept : List ℕ) → cond b (stored_flag (cond b flag false) kept) kept ≡ cond b (stored_flag flag kept) kept
same_flag true flag kept = refl
same_flag false flag kept = refl

-- what a call that answers by a flag comes to, where it passed the boundary's test t: x is the library's number
module _ {t b : Bool} (x : ℕ) (e : t ≡ b) (f : t ≡ false) (answer : Result Bool Refusal) (m : answer_number answer ≡ x) where
  pub flag_number : (r : ℕ) → r ≡ answer_number answer → r ≡ boundary_first b x
  flag_number r s = s ∙ m ∙ passed x e f

  pub flag_told : (flag : Bool) (words kept : List ℕ) → flagged_flag answer ≡ flag_if x flag → words ≡ buffer_if (answer_number answer) (stored_flag (flagged_flag answer) kept) kept
      → words ≡ buffer_if (boundary_first b x) (stored_flag flag kept) kept
  flag_told flag words kept g w = w ∙ rw (g, m, ← passed x e f) (same_flag (eqb x 0) flag kept)

-- ---- a size: n is the number told, x the library's
module _ (answer : Result Dimensions Refusal) (n x : ℕ) (size : Dimensions) (p : x ≡ n) (m : answer_number answer ≡ x) where
  pub size_refused : (why : Refusal) (r : ℕ) (kept : List ℕ) → answer ≡ Err why → r ≡ number why → (r ≡ n) × (kept ≡ buffer_if n (stored_size size kept) kept)
  size_refused why r kept e f =
      let z : number why ≡ n = (rw e at m) ∙ p in
      (f ∙ z, kept_by why n _ kept (sym z))

  pub size_stored : (d : Dimensions) (words kept : List ℕ) → answer ≡ Ok d → sized_size answer ≡ size_if x size → words ≡ stored_size d kept
      → (0 ≡ n) × (words ≡ buffer_if n (stored_size size kept) kept)
  size_stored d words kept e s w =
      let z : 0 ≡ x = rw e at m in
      let q : d ≡ size = rw (e, ← z) at s in
      (z ∙ p, written_by n words _ kept (z ∙ p) (w ∙ rw q refl))
