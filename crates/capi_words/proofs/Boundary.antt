-- The boundary's number, tested first, and buffers by the number told: a refusal's number is not 0, so it keeps every buffer. Assumes nothing.
use Prim.Native.Nat.{ℕ, ◌≤◌}
use mathlib.Core.Path.{◌≡◌, refl, sym, ◌∙◌}
use mathlib.Core.Bool.{Bool, true, false, cond}
use mathlib.Core.List.{List}
use lib.Dec.{eqb}
use borrow.Author.Tests.{le-ltb}
use Rattle.pixels.specs.declared.Refusal.{Refusal}
use Rattle.pixels.specs.Refusals.{number, buffer_if}
use Rattle.pixels.proofs.Numbers.{not_zero}
use Rattle.capi_words.specs.Boundary.{boundary, boundary_first, misused}

pub misused_layout : (layout lent need : ℕ) → 3 ≤ layout → true ≡ misused layout lent need
misused_layout layout lent need h = simp (le-ltb layout 3 h)

-- ---- buffers
-- a refusal's number keeps a buffer
pub kept_by : (why : Refusal) (n : ℕ) (written kept : List ℕ) → n ≡ number why → kept ≡ buffer_if n written kept
kept_by why n written kept e = simp (not_zero why n e)

-- 0 has it written
pub written_by : (n : ℕ) (words written kept : List ℕ) → 0 ≡ n → words ≡ written → words ≡ buffer_if n written kept
written_by n words written kept z w = rw (← z) w

-- a buffer that is written only where the number is 0
pub written_once : (n : ℕ) (written kept : List ℕ) → buffer_if n written kept ≡ buffer_if n (buffer_if n written kept) kept
written_once n written kept = twice (eqb n 0)
  where
    twice : (b : Bool) → cond b written kept ≡ cond b (cond b written kept) kept
    twice true = refl
    twice false = refl

-- ---- a call that the boundary refuses: t is its test, n the library's number
module _ {t b : Bool} (n : ℕ) (e : t ≡ b) (f : t ≡ true) where
  pub misuse_told : boundary ≡ boundary_first b n
  misuse_told = simp (sym e ∙ f)

  pub misuse_kept : (written kept : List ℕ) → kept ≡ buffer_if (boundary_first b n) written kept
  misuse_kept written kept = simp (sym e ∙ f)

-- ---- a call that it lets pass
pub passed : {t b : Bool} (n : ℕ) → t ≡ b → t ≡ false → n ≡ boundary_first b n
passed n e f = simp (sym e ∙ f)

-- n is the number told, x the library's
pub buffer_told : (n x : ℕ) (words written kept : List ℕ) → x ≡ n → words ≡ buffer_if x written kept → words ≡ buffer_if n written kept
buffer_told n x words written kept p w = rw p at w
