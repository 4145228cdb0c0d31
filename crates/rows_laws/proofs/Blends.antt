-- Two values blended with weights A and B that add up to 2^32, where B is d / g in 2^32ths, rounded down (MATHEMATICS 3): how far the result is from
-- the true blend, in gths. Assumes nothing.
use Prim.Native.Nat.{ℕ, zero, suc, ◌+◌, ◌*◌, ◌-◌, ◌/◌, ◌^◌, ◌≤◌, ◌<◌}
use mathlib.Core.Path.{◌≡◌, refl}
use native.Mathlib.Omega.{arith}
use native.Mathlib.Nat.{mul-le-mul_left, mul-le-mul_right}
use mathlib.Core.Bool.{false}
use lib.Dec.{eqb}
use borrow.Author.Tests.{ne_eqb}
use Rattle.arithmetic.specs.FixedPoint.{frac}
use Rattle.arithmetic.proofs.Products.{times}
use Rattle.arithmetic.proofs.FixedPoints.{frac_high, frac_low, frac_word}
use Rattle.rows.specs.Output.{mixed, blend}

-- rounded to the nearest; `mixed` is this with A = 2^32 - B
abbrev blended : ℕ → ℕ → ℕ → ℕ → ℕ
blended A B x y = (A * x + B * y + 2 ^ 31) / 2 ^ 32

module _ (A B x y d e g : ℕ) (all : A + B ≡ 2 ^ 32) (steps : d + e ≡ g) (low : d * 2 ^ 32 ≤ B * g + g) (high : B * g ≤ d * 2 ^ 32) where
  pub blend_high : 2 ^ 32 * (2 * (blended A B x y * g)) ≤ 2 ^ 32 * (2 * (e * x + d * y) + g) + 2 * (g * x)
  blend_high =
      let c : blended A B x y * 2 ^ 32 ≤ A * x + B * y + 2 ^ 31 = omega arith in
      let a : A * g + B * g ≡ 2 ^ 32 * g = omega (arith, times g all) in
      let b : A * g ≤ e * 2 ^ 32 + g = omega arith in
      omega (arith, mul-le-mul_right g c, mul-le-mul_right x b, mul-le-mul_right y high)

  pub blend_low : 2 ^ 32 * (2 * (e * x + d * y)) ≤ 2 ^ 32 * (2 * (blended A B x y * g) + g) + 2 * (g * y)
  blend_low =
      let c : A * x + B * y + 2 ^ 31 ≤ blended A B x y * 2 ^ 32 + 2 ^ 32 = omega arith in
      let a : A * g + B * g ≡ 2 ^ 32 * g = omega (arith, times g all) in
      let b : e * 2 ^ 32 ≤ A * g = omega arith in
      omega (arith, mul-le-mul_right g c, mul-le-mul_right x b, mul-le-mul_right y low)

-- j is off the true blend, t / G, by at most a half and one part in 2^32 of the greater value, at most k
pub record Mixed (k G j t : ℕ) : Type 0 where
  pub above : 2 ^ 32 * (2 * (j * G)) ≤ 2 ^ 32 * (2 * t + G) + 2 * (G * k)
  pub below : 2 ^ 32 * (2 * t) ≤ 2 ^ 32 * (2 * (j * G) + G) + 2 * (G * k)

-- the value of an output row that lies d of g - 1 steps back from the newer value to the older
pub blend_mixed : (g d newer older k : ℕ) → d < g - 1 → newer ≤ k → older ≤ k → Mixed k (g - 1) (blend g d newer older) ((g - 1 - d) * newer + d * older)
unfolding blend mixed
blend_mixed g zero newer older k back most most' =
    let j : blend g 0 newer older ≡ newer = refl in
    let t : (g - 1 - 0) * newer + 0 * older ≡ (g - 1) * newer = (let q : g - 1 - 0 ≡ g - 1 = omega arith in rw q (omega arith)) in
    rw (j, t) (omega arith)
blend_mixed g (suc d) newer older k back most most' =
    rw (let q : eqb (suc d) 0 ≡ false = ne_eqb (suc d) 0 (omega arith) in q)
    (go (frac (suc d) (g - 1)) (frac_word (suc d) (g - 1)) (frac_high (suc d) (g - 1) back) (frac_low (suc d) (g - 1) back))
  where
    go : (b : ℕ) → b < 2 ^ 32 → b * (g - 1) ≤ suc d * 2 ^ 32 → suc d * 2 ^ 32 < b * (g - 1) + (g - 1) → Mixed k (g - 1) (mixed b newer older) ((g - 1 - suc d) * newer + suc d * older)
    go b word high low =
        let all : 2 ^ 32 - b + b ≡ 2 ^ 32 = omega arith in
        let steps : suc d + (g - 1 - suc d) ≡ g - 1 = omega arith in
        record {
          above = omega (arith, blend_high (2 ^ 32 - b) b newer older (suc d) (g - 1 - suc d) (g - 1) all steps (omega arith) high, mul-le-mul_left (g - 1) most);
          below = omega (arith, blend_low (2 ^ 32 - b) b newer older (suc d) (g - 1 - suc d) (g - 1) all steps (omega arith) high, mul-le-mul_left (g - 1) most');
        }
