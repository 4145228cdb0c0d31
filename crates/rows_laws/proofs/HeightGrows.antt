-- A row goes out, the height grows (MATHEMATICS 3): the byte against the exact mean, for any values v c of the crop rows that are close to exact sums e c.
-- Why: the two crop rows that are blended are the two that the exact mean weighs, and with the same weights; the rounding of the blend and of the byte
-- is at most a half each. So for every span. Assumes nothing.
use Prim.Native.Nat.{ℕ, suc, ◌+◌, ◌*◌, ◌-◌, ◌^◌, ◌≤◌, ◌<◌}
use mathlib.Core.Path.{◌≡◌, refl, sym, ◌∙◌, ap}
use mathlib.Core.Bool.{Bool, true, false, cond}
use mathlib.Core.Logic.{◌⊎◌, inl, inr}
use native.Mathlib.Omega.{arith}
use native.Mathlib.Nat.{mul-le-mul_left, mul-le-mul_right, lt_of_mul-lt-mul_right, eq-or-lt_of_le}
use lib.Dec.{eqb}
use borrow.Author.Tests.{lt-leb, eqb-true, eqb-false}
use Rattle.arithmetic.specs.FixedPoint.{mult, frac}
use Rattle.arithmetic.specs.Sum.{sum}
use Rattle.arithmetic.specs.Weight.{grow_weight, weight}
use Rattle.arithmetic.proofs.FixedPoints.{mean_high, round_low, frac_low}
use Rattle.arithmetic.proofs.Sums.{sum_cong, sum_weighted_le}
use Rattle.arithmetic.proofs.Weights.{weight_grow, grow_sum, grow_sum_last, grow_total}
use Rattle.rows_schedule.specs.Schedule.{needed}
use Rattle.rows_schedule.proofs.Needed.{up_low, up_high, needed_some, needed_le}
use Rattle.rows.specs.Output.{rest_up, blend, byte_up}
use Rattle.rows.specs.Closed.{newest, scaled_byte}
use Rattle.rows_laws.specs.Mean.{Near}
use Rattle.rows_laws.proofs.Close.{Close, close_weighted, near_clamp}
use Rattle.rows_laws.proofs.Newest.{newest_at, newest_most}
use Rattle.rows_laws.proofs.Blends.{Mixed, blend_mixed}

-- ---- the exact mean weighs the two rows that are blended, u the crop rows used: d steps back of g - 1
module _ (h g y u : ℕ) (v : ℕ → ℕ) (some : 0 < u) (inside : u ≤ h) (low : y * (h - 1) ≤ (u - 1) * (g - 1)) (high : (u - 1) * (g - 1) < y * (h - 1) + (g - 1)) where
  abbrev pub rest : ℕ
  rest = rest_up h g u y

  pub grow_weighed : sum (λ c. grow_weight h g y c * v c) 0 h ≡ (g - 1 - rest) * newest v u + rest * newest v (u - 1)
  grow_weighed = by (eq-or-lt_of_le low)
    where
      by : (y * (h - 1) ≡ (u - 1) * (g - 1)) ⊎ (y * (h - 1) < (u - 1) * (g - 1)) → sum (λ c. grow_weight h g y c * v c) 0 h ≡ (g - 1 - rest) * newest v u + rest * newest v (u - 1)
      by (inl at) =
          let none : rest ≡ 0 = omega arith in
          rw (none, newest_at v u some) (one (eq-or-lt_of_le inside))
        where
          one : (u ≡ h) ⊎ (u < h) → sum (λ c. grow_weight h g y c * v c) 0 h ≡ (g - 1 - 0) * v (u - 1) + 0 * newest v (u - 1)
          one (inl end) =
              grow_sum_last h g y (u - 1) 0 (omega arith) (omega arith) v (omega arith) refl
              ∙ (let q : g - 1 - 0 ≡ g - 1 = omega arith in rw q (omega arith))
          one (inr more) = grow_sum h g y (u - 1) 0 (omega arith) (omega arith) v (omega arith) ∙ (omega arith)
      by (inr back) =
          let p : 0 < u - 1 = lt_of_mul-lt-mul_right (g - 1) (omega arith) in
          let q : u - 1 ≡ suc (u - 1 - 1) = omega arith in
          let step : (u - 1) * (g - 1) ≡ suc (u - 1 - 1) * (g - 1) = ap (λ (t : ℕ). t * (g - 1)) q in
          rw (newest_at v u some, newest_at v (u - 1) p)
          (grow_sum h g y (u - 1 - 1) (g - 1 - rest) (omega arith) (omega arith) v (omega arith)
          ∙ ap (λ (t : ℕ). (g - 1 - (g - 1 - rest)) * v (u - 1 - 1) + (g - 1 - rest) * v t) (sym q)
          ∙ turned (g - 1) rest (v (u - 1 - 1)) (v (u - 1)) (omega arith))
        where
          turned : (G r a b : ℕ) → r < G → (G - (G - r)) * a + (G - r) * b ≡ (G - r) * b + r * a
          turned G r a b l = let e : G - (G - r) ≡ r = omega arith in rw e (omega arith)

-- ---- the byte
pub scaled_up : (W h g : ℕ) (v : ℕ → ℕ) (y : ℕ) → h < g → scaled_byte W h g v y ≡ byte_up W (blend g (rest_up h g (needed h g y) y) (newest v (needed h g y)) (newest v (needed h g y - 1)))
unfolding scaled_byte
scaled_up W h g v y high = simp (lt-leb g h high)

-- all errors together, j the blended value, G the total of the weights, s the slack of a value: less than two levels off
pub byte_near_up : (j G W s S T : ℕ) → W ≤ 16384 → s < W → 0 < G → S ≤ 256 * W * G → Mixed (256 * W) G j S → Close (s * G) S T → Near (cond (eqb W 1) j (mult j (frac 1 W))) T (W * G)
byte_near_up j G W s S T narrow slack pos most mixed close = by (eqb W 1) refl
  where
    above' : 1024 * (j * G) ≤ 1024 * S + 513 * G
    above' = omega (arith, mixed.above, mul-le-mul_left G narrow)

    below' : 1024 * S ≤ 1024 * (j * G) + 513 * G
    below' = omega (arith, mixed.below, mul-le-mul_left G narrow)

    j_most : j ≤ 2 ^ 22
    j_most =
        let l : j * G < suc (256 * W) * G = omega (arith, above', most) in
        let k : j < suc (256 * W) = lt_of_mul-lt-mul_right G l in
        omega arith

    go : (B : ℕ) → 2 * (B * W) ≤ 2 * j + W → 2 ^ 32 * (2 * (j * 1)) ≤ 2 ^ 32 * (2 * (B * W) + W) + 2 * (j * W) → Near B T (W * G)
    go B b c =
        let c' : 1024 * j ≤ 1024 * (B * W) + 513 * W = omega (arith, c, mul-le-mul_right W j_most) in
        let l : 0 < W * G = omega (arith, mul-le-mul_right G slack) in
        record {
          above = omega (arith, mul-le-mul_right G b, above', close.above, mul-le-mul_right G slack);
          below = omega (arith, mul-le-mul_right G c', below', close.below, mul-le-mul_right G slack);
        }

    -- for span 1 the value has no slack, and j is the byte: the blend alone rounds
    by : (one : Bool) → eqb W 1 ≡ one → Near (cond one j (mult j (frac 1 W))) T (W * G)
    by true e =
        let all : W * G ≡ 1 * G = ap (λ (t : ℕ). t * G) (eqb-true W 1 e) in
        let near : Near j T (1 * G) = omega (arith, all, above', below', close.above, close.below, mul-le-mul_right G slack) in
        rw all near
    by false e =
        let two : 2 ≤ W = omega (arith, eqb-false W 1 e) in
        go (mult j (frac 1 W)) (mean_high j W two) (round_low j (frac 1 W) 1 W (omega (arith, frac_low 1 W two)))

module _ (h g y : ℕ) (v e : ℕ → ℕ) (W s : ℕ) (pos : 0 < h) (high : h < g) (within : y < g) (narrow : W ≤ 16384) (slack : s < W) (near : (c : ℕ) → c < h → Close s (v c) (e c)) (bytes : (c : ℕ) → c < h → e c ≤ 255 * W) where
  abbrev S : ℕ
  S = sum (λ c. weight h g y c * v c) 0 h

  abbrev T : ℕ
  T = sum (λ c. weight h g y c * e c) 0 h

  abbrev d : ℕ
  d = rest_up h g (needed h g y) y

  abbrev j : ℕ
  j = blend g d (newest v (needed h g y)) (newest v (needed h g y - 1))

  most : (c : ℕ) → c < h → v c ≤ 256 * W
  most c l = let n = near c l in omega (arith, bytes c l)

  all_weights : sum (weight h g y) 0 h ≡ g - 1
  all_weights = sum_cong _ _ 0 h (λ c l u. weight_grow h g y c high) ∙ grow_total h g y pos high within

  close : Close (s * (g - 1)) S T
  close = rw all_weights at (close_weighted (weight h g y) v e s h near)

  most_s : S ≤ 256 * W * (g - 1)
  most_s = rw all_weights at (sum_weighted_le (weight h g y) v (256 * W) 0 h (λ c l u. most c (omega arith)))

  most_t : T ≤ 255 * (W * (g - 1))
  most_t =
      let t : T ≤ 255 * W * (g - 1) = rw all_weights at (sum_weighted_le (weight h g y) e (255 * W) 0 h (λ c l u. bytes c (omega arith))) in
      omega arith

  mixed : Mixed (256 * W) (g - 1) j S
  mixed =
      let u : needed h g y ≤ h = needed_le h g y pos within in
      let is : S ≡ (g - 1 - d) * newest v (needed h g y) + d * newest v (needed h g y - 1) =
      sum_cong _ _ 0 h (λ c l r. ap (λ (t : ℕ). t * v c) (weight_grow h g y c high))
      ∙ grow_weighed h g y (needed h g y) v (needed_some h g y pos (omega arith)) u (up_low h g y pos high) (up_high h g y pos high) in
      rw is (blend_mixed g d (newest v (needed h g y)) (newest v (needed h g y - 1)) (256 * W) (omega (arith, up_low h g y pos high, up_high h g y pos high)) (newest_most v (256 * W) h (needed h g y) most u) (newest_most v (256 * W) h (needed h g y - 1) most (omega arith)))

  pub distance_up : Near (scaled_byte W h g v y) (sum (λ c. weight h g y c * e c) 0 h) (W * (g - 1))
  unfolding byte_up
  distance_up =
      rw (scaled_up W h g v y high) (near_clamp _ T (W * (g - 1)) most_t (byte_near_up j (g - 1) W s S T narrow slack (omega arith) most_s mixed close))
