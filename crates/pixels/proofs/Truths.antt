-- Tests that come out true or false, taken apart. Assumes nothing.
use Prim.Native.Nat.{ℕ}
use mathlib.Core.Path.{◌≡◌, refl, sym}
use mathlib.Core.Bool.{Bool, true, false, not, ◌&&◌, ◌||◌, true≢false}
use mathlib.Core.Logic.{◌⊎◌, inl, inr}
use lib.Dec.{eqb}
use borrow.Author.Tests.{eq-eqb, ne_eqb, eqb-true}

-- a test comes out one way or the other
pub test : (b : Bool) → (b ≡ true) ⊎ (b ≡ false)
test true = inl refl
test false = inr refl

pub both_true : (a b : Bool) → (a && b) ≡ true → (a ≡ true) × (b ≡ true)
both_true true b e = (refl, e)
both_true false b e = absurd (true≢false (sym e))

pub neither_true : (a b : Bool) → (a || b) ≡ false → (a ≡ false) × (b ≡ false)
neither_true false b e = (refl, e)
neither_true true b e = absurd (true≢false e)

pub not_true : (b : Bool) → not b ≡ true → b ≡ false
not_true false e = refl
not_true true e = absurd (true≢false (sym e))

pub not_false : (b : Bool) → not b ≡ false → b ≡ true
not_false true e = refl
not_false false e = absurd (true≢false e)

-- two numbers, as the test whether they differ
pub differ : (n m : ℕ) → (n ≡ m → ⊥) → not (eqb n m) ≡ true
differ n m h = simp (ne_eqb n m h)

pub same : (n m : ℕ) → n ≡ m → not (eqb n m) ≡ false
same n m h = simp (eq-eqb n m h)

pub same_of : (n m : ℕ) → not (eqb n m) ≡ false → n ≡ m
same_of n m e = eqb-true n m (not_false (eqb n m) e)
