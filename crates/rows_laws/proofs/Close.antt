-- How near a row's value is to the exact sum, and that weighted sums of such values are as near, times the total of the weights. Assumes nothing.
use Prim.Native.Nat.{ℕ, ◌+◌, ◌*◌, ◌≤◌, ◌<◌, min}
use mathlib.Core.Path.{◌≡◌}
use mathlib.Core.Logic.{◌⊎◌, inl, inr}
use native.Mathlib.Omega.{arith}
use native.Mathlib.Nat.{mul-le-mul_left, mul-le-mul_right}
use Rattle.arithmetic.specs.Sum.{sum}
use Rattle.arithmetic.proofs.Orders.{le_or_lt}
use Rattle.arithmetic.proofs.Sums.{sum_mono, sum_add, sum_scale}
use Rattle.rows_laws.specs.Mean.{Near}
use Rattle.rows.specs.Output.{clamp}

-- the value is above the exact sum by at most s / 2, and below it by at most 1026 × s / 2048
pub record Close (s value exact : ℕ) : Type 0 where
  pub above : 2 * value ≤ 2 * exact + s
  pub below : 2048 * exact ≤ 2048 * value + 1026 * s

-- an error of at most e / k at each term, weighted: at most the weights' total as much
pub sum_weighted_error : (w p q : ℕ → ℕ) (k e n : ℕ) → ((i : ℕ) → i < n → k * p i ≤ k * q i + e) → k * sum (λ i. w i * p i) 0 n ≤ k * sum (λ i. w i * q i) 0 n + e * sum w 0 n
sum_weighted_error w p q k e n h =
    let t : sum (λ i. k * (w i * p i)) 0 n ≤ sum (λ i. k * (w i * q i) + e * w i) 0 n =
    sum_mono _ _ 0 n (λ i l u. each (w i) (p i) (q i) (h i (omega arith))) in
    omega (arith, t, sum_scale k (λ i. w i * p i) 0 n, sum_add (λ i. k * (w i * q i)) (λ i. e * w i) 0 n, sum_scale k (λ i. w i * q i) 0 n, sum_scale e w 0 n)
  where
    each : (a x y : ℕ) → k * x ≤ k * y + e → k * (a * x) ≤ k * (a * y) + e * a
    each a x y l = omega (arith, mul-le-mul_left a l)

pub close_weighted : (w v e : ℕ → ℕ) (s n : ℕ) → ((c : ℕ) → c < n → Close s (v c) (e c)) → Close (s * sum w 0 n) (sum (λ c. w c * v c) 0 n) (sum (λ c. w c * e c) 0 n)
close_weighted w v e s n near = record {
  above = sum_weighted_error w v e 2 s n (λ c l. (near c l).above);
  below = (let q = sum_weighted_error w e v 2048 (1026 * s) n (λ c l. (near c l).below) in omega arith);
}

-- cutting off at 255 brings a byte nearer to a mean of at most 255
pub near_clamp : (byte exact all : ℕ) → exact ≤ 255 * all → Near byte exact all → Near (clamp byte) exact all
near_clamp byte exact all most near = by (le_or_lt byte 255)
  where
    by : (byte ≤ 255) ⊎ (255 < byte) → Near (clamp byte) exact all
    by (inl h) = let e : min byte 255 ≡ byte = omega arith in rw e near
    by (inr h) = let e : min byte 255 ≡ 255 = omega arith in rw e (omega (arith, mul-le-mul_right all h))
