-- The answer with a place: turned away, and let go on. Assumes nothing.
use Prim.Native.Nat.{ℕ}
use mathlib.Core.Path.{◌≡◌, sym, ◌∙◌}
use borrow.Author.Tests.{eq-eqb}
use Rattle.pixels.specs.declared.Refusal.{Refusal}
use Rattle.pixels.specs.Refusals.{number}
use Rattle.pixels.proofs.Numbers.{not_zero}
use Rattle.group_tests.specs.Placed.{place_if}

pub turned : (why : Refusal) (n place : ℕ) → n ≡ number why → (number why ≡ n) × (0 ≡ place_if n place)
turned why n place e = (sym e, simp (not_zero why n e))

pub went : (n place asked : ℕ) → n ≡ 0 → place ≡ asked → (0 ≡ n) × (place ≡ place_if n asked)
went n place asked e is = (sym e, is ∙ simp (eq-eqb n 0 e))
