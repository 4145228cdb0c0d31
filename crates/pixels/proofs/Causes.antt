-- Causes in their order: those before it pass, it applies, so the number is its; none applies exactly if the number is 0. One law for every list. Assumes nothing.
use Prim.Native.Nat.{ℕ, zero, suc}
use mathlib.Core.Path.{◌≡◌, refl, ◌∙◌}
use mathlib.Core.Bool.{Bool, true, false, cond}
use mathlib.Core.List.{List, [], ◌∷◌, ◌++◌}
use native.Mathlib.Omega.{arith}
use Rattle.pixels.specs.declared.Refusal.{Refusal}
use Rattle.pixels.specs.Refusals.{number, Cause, first}
use Rattle.pixels.proofs.Numbers.{number_pos}

-- the first i causes pass
abbrev pub Before : List Cause → ℕ → Type 0
Before cs zero = Unit {0}
Before [] (suc i) = Unit {0}
Before (c ∷ cs) (suc i) = (c.applies ≡ false) × Before cs i

-- cause i applies
abbrev pub Applies : List Cause → ℕ → Type 0
Applies [] i = ⊥
Applies (c ∷ cs) zero = c.applies ≡ true
Applies (c ∷ cs) (suc i) = Applies cs i

-- its number
abbrev pub number_at : List Cause → ℕ → ℕ
number_at [] i = 0
number_at (c ∷ cs) zero = number c.why
number_at (c ∷ cs) (suc i) = number_at cs i

-- all pass
abbrev pub Pass : List Cause → Type 0
Pass [] = Unit {0}
Pass (c ∷ cs) = (c.applies ≡ false) × Pass cs

skip : (c : Cause) (cs : List Cause) → c.applies ≡ false → first (c ∷ cs) ≡ first cs
skip c cs e = simp e

pub first_at : (cs : List Cause) (i : ℕ) → Before cs i → Applies cs i → first cs ≡ number_at cs i
first_at [] i b a = absurd a
first_at (c ∷ cs) zero b a = simp a
first_at (c ∷ cs) (suc i) b a = skip c cs b.0 ∙ first_at cs i b.1 a

pub first_none : (cs : List Cause) → Pass cs → first cs ≡ 0
first_none [] p = refl
first_none (c ∷ cs) p = skip c cs p.0 ∙ first_none cs p.1

passes : (b : Bool) (why : Refusal) (n : ℕ) → cond b (number why) n ≡ 0 → (b ≡ false) × (n ≡ 0)
passes false why n e = (refl, e)
passes true why n e = absurd (omega (arith, number_pos why))

pub none_applies : (cs : List Cause) → first cs ≡ 0 → Pass cs
none_applies [] e = tt
none_applies (c ∷ cs) e = let p = passes c.applies c.why (first cs) e in (p.0, none_applies cs p.1)

-- ---- a list that goes on
pub first_past : (cs ds : List Cause) → first cs ≡ 0 → first (cs ++ ds) ≡ first ds
first_past [] ds e = refl
first_past (c ∷ cs) ds e =
    let p = passes c.applies c.why (first cs) e in
    skip c (cs ++ ds) p.0 ∙ first_past cs ds p.1

pub first_stays : (why : Refusal) (cs ds : List Cause) → first cs ≡ number why → first (cs ++ ds) ≡ number why
first_stays why [] ds e = absurd (omega (arith, number_pos why))
first_stays why (c ∷ cs) ds e = go c.applies (first_stays why cs ds) e
  where
    go : (b : Bool) → (first cs ≡ number why → first (cs ++ ds) ≡ number why)
        → cond b (number c.why) (first cs) ≡ number why → cond b (number c.why) (first (cs ++ ds)) ≡ number why
    go true rest h = h
    go false rest h = rest h
