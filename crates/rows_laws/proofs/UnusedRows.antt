-- The crop rows that an output row does not need weigh nothing in its exact mean (MATHEMATICS 5): the mean over all h crop rows is one over the
-- rows needed, which were accepted before the row was made. Why: crop row U Y starts where output row Y ends. Assumes nothing.
use Prim.Native.Nat.{ℕ, suc, ◌+◌, ◌*◌, ◌-◌, ◌≤◌, ◌<◌}
use mathlib.Core.Path.{◌≡◌, ◌∙◌, ap}
use mathlib.Core.Logic.{◌⊎◌, inl, inr}
use native.Mathlib.Omega.{arith}
use native.Mathlib.Nat.{mul-le-mul_right, zero-mul}
use Rattle.arithmetic.specs.Sum.{sum}
use Rattle.arithmetic.specs.Weight.{grow_weight, distance, weight}
use Rattle.arithmetic.proofs.Orders.{le_or_lt}
use Rattle.arithmetic.proofs.Sums.{sum_within}
use Rattle.arithmetic.proofs.Weights.{weight_shrink, weight_grow, shrink_after}
use Rattle.rows_schedule.specs.Schedule.{needed}
use Rattle.rows_schedule.proofs.Needed.{down_low, up_low, needed_some, needed_le}

-- past the output row's place by a whole step, the tent is 0
grow_unused : (h g y u c : ℕ) → y * (h - 1) ≤ (u - 1) * (g - 1) → 0 < u → u ≤ c → grow_weight h g y c ≡ 0
unfolding grow_weight
grow_unused h g y u c l p k =
    let q : suc (u - 1) * (g - 1) ≤ c * (g - 1) = mul-le-mul_right (g - 1) (omega arith) in
    far (y * (h - 1)) (c * (g - 1)) (g - 1) (omega arith)
  where
    far : (a b t : ℕ) → a + t ≤ b → t - distance a b ≡ 0
    far a b t h = omega arith

pub weight_unused : (h g y c : ℕ) → 0 < h → 0 < g → needed h g y ≤ c → weight h g y c ≡ 0
weight_unused h g y c p q unused = by (le_or_lt g h)
  where
    by : (g ≤ h) ⊎ (h < g) → weight h g y c ≡ 0
    by (inl low) =
        weight_shrink h g y c low ∙ shrink_after h g y c (omega (arith, down_low h g y q low, mul-le-mul_right g unused))
    by (inr high) =
        weight_grow h g y c high ∙ grow_unused h g y (needed h g y) c (up_low h g y p high) (needed_some h g y p q) unused

-- an end in itself: a weighted sum over all crop rows is one over the rows needed, so what the claim says of a row is of rows accepted before it
pub sum_needed : (h g y : ℕ) (e : ℕ → ℕ) → 0 < h → y < g → sum (λ c. weight h g y c * e c) 0 h ≡ sum (λ c. weight h g y c * e c) 0 (needed h g y)
sum_needed h g y e p within =
    sum_within (λ c. weight h g y c * e c) 0 (needed h g y) h (omega (arith, needed_le h g y p within)) (λ c l. absurd (omega arith))
    (λ c l u. ap (λ (w : ℕ). w * e c) (weight_unused h g y c p (omega arith) (omega arith)) ∙ zero-mul (e c))
