-- A row goes out, the height does not grow (MATHEMATICS 2): the byte against the exact mean, for any values v c of the crop rows that are close to exact sums e c.
-- Why: what f leaves out of one output row it puts into the next, so g × A + e(Y-1) = Σ weight × V + e Y with small e; the premise keeps the sums below
-- 2^31, so that nothing wraps. Assumes nothing.
use Prim.Native.Nat.{ℕ, zero, suc, ◌+◌, ◌*◌, ◌-◌, ◌/◌, ◌%◌, ◌^◌, ◌≤◌, ◌<◌}
use mathlib.Core.Path.{◌≡◌, sym, ◌∙◌, ap}
use mathlib.Core.Logic.{◌≢◌, ◌⊎◌, inl, inr}
use native.Mathlib.Omega.{arith}
use native.Mathlib.Nat.{mul-le-mul, mul-le-mul_left, mul-le-mul_right, lt_of_mul-lt-mul_right, le_of_mul-le-mul_right, eq-or-lt_of_le, zero-mul}
use borrow.Author.Tests.{le-leb, eq-eqb, ne_eqb}
use Rattle.arithmetic.specs.FixedPoint.{mult, frac}
use Rattle.arithmetic.specs.Sum.{sum}
use Rattle.arithmetic.specs.Word.{wrap_sub, wrap_mul}
use Rattle.arithmetic.specs.Weight.{shrink_weight, weight}
use Rattle.arithmetic.proofs.Orders.{le_or_lt}
use Rattle.arithmetic.proofs.Products.{times}
use Rattle.arithmetic.proofs.Quotients.{div_low}
use Rattle.arithmetic.proofs.FixedPoints.{share_high, share_low_18, place_high, place_low, floor_le}
use Rattle.arithmetic.proofs.Words.{wrap_sub_exact}
use Rattle.arithmetic.proofs.Sums.{sum_cong, sum_term, sum_weighted_le}
use Rattle.arithmetic.proofs.Weights.{weight_shrink, shrink_sum, shrink_total}
use Rattle.rows_schedule.specs.Schedule.{needed, since}
use Rattle.rows_schedule.proofs.Needed.{down_low, down_high, since_rise, needed_le}
use Rattle.rows.specs.Output.{rest_down, share, ratio, byte_down, clamp}
use Rattle.rows.specs.Closed.{newest, share_before, first_half, scaled_byte}
use Rattle.rows_laws.specs.Mean.{Near, sum_bound}
use Rattle.rows.proofs.Outputs.{share_is}
use Rattle.rows_laws.proofs.Close.{Close, close_weighted, near_clamp}
use Rattle.rows_laws.proofs.Newest.{newest_at, newest_most}

-- ---- f: the share of d / g of a value x, rounded down
pub share_le : (g d x : ℕ) → share g d x ≤ x
share_le g d x = rw (share_is g d x) (floor_le x (wrap_mul (frac 1 g) d) (omega arith))

-- f × g is below x, which is d × v, by less than g + W × g / 1024
pub record Rest (W g f x : ℕ) : Type 0 where
  pub not_above : f * g ≤ x
  pub not_far : 1024 * x < 1024 * (f * g) + 1024 * g + W * g

pub share_rest : (W g d x : ℕ) → d < g → g ≤ 16384 → x ≤ 256 * W → Rest W g (share g d x) (d * x)
share_rest W g d x below small most = rw (share_is g d x) (record {
  not_above = omega (arith, share_high x g d below);
  not_far = omega (arith, share_low_18 x g d below small, mul-le-mul {n₁ = x} {m₁ = d} {n₂ = 256 * W} {m₂ = g} most (omega arith));
})

-- ---- the rest d of output row y, before and after it
pub since_low : (h g y : ℕ) → 0 < g → g ≤ h → y * h ≤ since h g y * g
unfolding since
since_low h g zero pos low = omega arith
since_low h g (suc y) pos low = down_low h g y pos low

pub since_high : (h g y : ℕ) → 0 < g → g ≤ h → since h g y * g < y * h + g
unfolding since
since_high h g zero pos low = omega arith
since_high h g (suc y) pos low = down_high h g y pos low

-- 0 where the heights are the same
pub rest_none : (g b t : ℕ) → t * g ≤ b * g → b * g < t * g + g → b * g - t * g ≡ 0
rest_none g b t low high =
    let l : b * g < suc t * g = omega arith in
    let q : b ≤ t = (let r : b < suc t = lt_of_mul-lt-mul_right g l in omega arith) in
    omega (arith, mul-le-mul_right g q)

-- with no row there is no rest
pub rest_newest : (v : ℕ → ℕ) (g b t : ℕ) → (b * g - t) * v (b - 1) ≡ (b * g - t) * newest v b
rest_newest v g zero t = let q : 0 * g - t ≡ 0 = omega arith in rw q (zero-mul (v (0 - 1)) ∙ sym (zero-mul (newest v 0)))
rest_newest v g (suc b) t = ap (λ (w : ℕ). (suc b * g - t) * w) (sym (newest_at v (suc b) (omega arith)))

-- what f left out before output row y, the first included
pub shared : (h g : ℕ) (v : ℕ → ℕ) (W y : ℕ) → 0 < g → g ≤ h → g ≤ 16384 → ((c : ℕ) → c < h → v c ≤ 256 * W) → y ≤ g → Rest W g (share_before h g v y) ((since h g y * g - y * h) * newest v (since h g y))
unfolding share_before since newest
shared h g v W zero pos low small most within = omega arith
shared h g v W (suc y) pos low small most within =
    share_rest W g (rest_down h g (needed h g y) y) (newest v (needed h g y)) (omega (arith, down_low h g y pos low, down_high h g y pos low)) small (newest_most v (256 * W) h (needed h g y) most (needed_le h g y (omega arith) within))

-- ---- output row y: the weighted sum of the values, the first half before f comes off and not wrapped, and d × V before and after
abbrev pub weighed : ℕ → ℕ → (ℕ → ℕ) → ℕ → ℕ
weighed h g v y = sum (λ c. weight h g y c * v c) 0 h

abbrev pub whole : ℕ → ℕ → (ℕ → ℕ) → ℕ → ℕ
whole h g v y = share_before h g v y + sum v (since h g y) (needed h g y - since h g y)

abbrev pub rest_before : ℕ → ℕ → (ℕ → ℕ) → ℕ → ℕ
rest_before h g v y = (since h g y * g - y * h) * newest v (since h g y)

abbrev pub rest_after : ℕ → ℕ → (ℕ → ℕ) → ℕ → ℕ
rest_after h g v y = (needed h g y * g - suc y * h) * newest v (needed h g y)

module _ (h g y : ℕ) (v : ℕ → ℕ) (pos : 0 < g) (low : g ≤ h) (within : y < g) where
  -- Σ weight × V + d × V(U-1) = d(Y-1) × V(U(Y-1)-1) + g × Σ V
  pub weighed_sum : weighed h g v y + rest_after h g v y ≡ rest_before h g v y + g * sum v (since h g y) (needed h g y - since h g y)
  weighed_sum =
      let same : weighed h g v y ≡ sum (λ c. shrink_weight h g y c * v c) 0 h =
      sum_cong _ _ 0 h (λ c l u. ap (λ (w : ℕ). w * v c) (weight_shrink h g y c low)) in
      let s =
      shrink_sum v h g y (since h g y) (needed h g y) h (omega (arith, since_rise h g y pos low)) (needed_le h g y (omega arith) within) (since_low h g y pos low) (since_high h g y pos low) (down_low h g y pos low) (down_high h g y pos low) in
      rw (same, ← (rest_newest v g (since h g y) (y * h)), ← (rest_newest v g (needed h g y) (suc y * h))) s

  pub weighed_most : (k : ℕ) → ((c : ℕ) → c < h → v c ≤ k) → weighed h g v y ≤ k * h
  weighed_most k most =
      let t : sum (weight h g y) 0 h ≡ h = sum_cong _ _ 0 h (λ c l u. weight_shrink h g y c low) ∙ shrink_total h g y within in
      rw t at (sum_weighted_le (weight h g y) v k 0 h (λ c l u. most c (omega arith)))

  -- f is not above the first half
  pub share_in_whole : share_before h g v (suc y) ≤ whole h g v y
  unfolding share_before
  share_in_whole =
      let b : since h g y < needed h g y = since_rise h g y pos low in
      let t : v (needed h g y - 1) ≤ sum v (since h g y) (needed h g y - since h g y) =
      sum_term v (since h g y) (needed h g y - since h g y) (needed h g y - 1) (omega arith) (omega arith) in
      omega (arith, share_le g (rest_down h g (needed h g y) y) (newest v (needed h g y)), newest_at v (needed h g y) (omega arith))

module _ (h g y : ℕ) (v : ℕ → ℕ) (W : ℕ) (pos : 0 < g) (low : g ≤ h) (within : y < g) (small : g ≤ 16384) (most : (c : ℕ) → c < h → v c ≤ 256 * W) where
  pub rest_before_lem : Rest W g (share_before h g v y) (rest_before h g v y)
  rest_before_lem = shared h g v W y pos low small most (omega arith)

  pub rest_after_lem : Rest W g (share_before h g v (suc y)) (rest_after h g v y)
  unfolding since
  rest_after_lem = shared h g v W (suc y) pos low small most within

  -- under the premise nothing wraps
  pub whole_fits : W * h ≤ sum_bound * g → whole h g v y ≤ 2 ^ 31
  whole_fits premise =
      let d : needed h g y * g - suc y * h ≤ g = omega (arith, down_high h g y pos low) in
      let r : rest_after h g v y ≤ g * (256 * W) =
      mul-le-mul d (newest_most v (256 * W) h (needed h g y) most (needed_le h g y (omega arith) within)) in
      le_of_mul-le-mul_right {k = g} (go _ _ _ _ _ (weighed_sum h g y v pos low within) rest_before_lem.not_above (weighed_most h g y v pos low within (256 * W) most) r) pos
    where
      go : (w a b f s : ℕ) → w + a ≡ b + g * s → f * g ≤ b → w ≤ 256 * W * h → a ≤ g * (256 * W) → (f + s) * g ≤ 2 ^ 31 * g
      go w a b f s sum_is_lem not_above hw ha = omega (arith, mul-le-mul_right (256 * W) low, premise)

  -- A, which is what is left once f came off, times g: near the weighted sum
  pub left_high : (a : ℕ) → a + share_before h g v (suc y) ≡ whole h g v y → 1024 * (a * g) < 1024 * weighed h g v y + 1024 * g + W * g
  left_high a is = go _ _ _ _ _ _ (weighed_sum h g y v pos low within) is rest_before_lem.not_above rest_after_lem.not_far
    where
      go : (w x b f f' s : ℕ) → w + x ≡ b + g * s → a + f' ≡ f + s → f * g ≤ b → 1024 * x < 1024 * (f' * g) + 1024 * g + W * g → 1024 * (a * g) < 1024 * w + 1024 * g + W * g
      go w x b f f' s p q k l = omega (arith, times g q)

  pub left_low : (a : ℕ) → a + share_before h g v (suc y) ≡ whole h g v y → 1024 * weighed h g v y < 1024 * (a * g) + 1024 * g + W * g
  left_low a is = go _ _ _ _ _ _ (weighed_sum h g y v pos low within) is rest_before_lem.not_far rest_after_lem.not_above
    where
      go : (w x b f f' s : ℕ) → w + x ≡ b + g * s → a + f' ≡ f + s → 1024 * b < 1024 * (f * g) + 1024 * g + W * g → f' * g ≤ x → 1024 * w < 1024 * (a * g) + 1024 * g + W * g
      go w x b f f' s p q k l = omega (arith, times g q)

-- ---- the byte
pub scaled_down : (W h g : ℕ) (v : ℕ → ℕ) (y : ℕ) → g ≤ h → scaled_byte W h g v y ≡ byte_down (ratio W h g) (first_half h g v y (needed h g y)) (share_before h g v (suc y))
unfolding scaled_byte
scaled_down W h g v y low = simp (le-leb g h low)

pub first_exact : (h g y : ℕ) (v : ℕ → ℕ) → whole h g v y < 2 ^ 32 → first_half h g v y (needed h g y) ≡ whole h g v y
unfolding first_half
first_exact h g y v fits = omega arith

pub byte_whole : (q a f : ℕ) → q ≡ 2 ^ 32 → byte_down q a f ≡ a % 256
unfolding byte_down
byte_whole q a f h = simp (eq-eqb q (2 ^ 32) h)

pub byte_part : (q a f : ℕ) → q ≢ 2 ^ 32 → byte_down q a f ≡ clamp (mult (wrap_sub a f) q)
unfolding byte_down
byte_part q a f h = simp (ne_eqb q (2 ^ 32) h)

-- q is 2^32 only where the span is 1 and the heights are the same
pub ratio_whole : (W h g : ℕ) → 0 < W → 0 < g → g ≤ h → ratio W h g ≡ 2 ^ 32 → (W ≡ 1) × (g ≡ h)
unfolding ratio
ratio_whole W h g some pos low e =
    let d : 2 ^ 32 * (W * h) ≤ g * 2 ^ 32 = rw e at (div_low (g * 2 ^ 32) (W * h)) in
    let l : W * h ≤ 1 * h = omega arith in
    let one : W ≤ 1 = le_of_mul-le-mul_right {k = h} l (omega arith) in
    let w : W ≡ 1 = omega arith in
    (w, omega (arith, ap (λ (t : ℕ). t * h) w))

-- all errors together, a the value before the last product, s the slack of a value: less than two levels off
pub byte_near : (a g h W s S T : ℕ) → s < W → 0 < h → g ≤ h → a ≤ 2 ^ 30 → 1024 * (a * g) < 1024 * S + 1024 * g + W * g → 1024 * S < 1024 * (a * g) + 1024 * g + W * g → Close (s * h) S T → Near (mult a (g * 2 ^ 32 / (W * h))) T (W * h)
byte_near a g h W s S T slack pos low small high deep close = go (mult a (g * 2 ^ 32 / (W * h))) (place_high a g (W * h)) (place_low a g (W * h) (omega (arith, mul-le-mul_right h slack)))
  where
    go : (B : ℕ) → 2 * (B * (W * h)) ≤ 2 * (a * g) + W * h → 2 ^ 32 * (2 * (a * g)) ≤ 2 ^ 32 * (2 * (B * (W * h)) + W * h) + 2 * (a * (W * h)) → Near B T (W * h)
    go B b c = record {
      above = omega (arith, b, high, close.above, mul-le-mul_right h slack, mul-le-mul_left W low);
      below = omega (arith, c, deep, close.below, mul-le-mul_right h slack, mul-le-mul_left W low, mul-le-mul_right (W * h) small);
    }

module _ (h g y : ℕ) (v e : ℕ → ℕ) (W s : ℕ) (pos : 0 < g) (low : g ≤ h) (within : y < g) (small : g ≤ 16384) (narrow : W ≤ 16384) (slack : s < W) (premise : W * h ≤ sum_bound * g) (near : (c : ℕ) → c < h → Close s (v c) (e c)) (bytes : (c : ℕ) → c < h → e c ≤ 255 * W) where
  abbrev S : ℕ
  S = weighed h g v y

  abbrev T : ℕ
  T = weighed h g e y

  most : (c : ℕ) → c < h → v c ≤ 256 * W
  most c l = let n = near c l in omega (arith, bytes c l)

  fits : whole h g v y ≤ 2 ^ 31
  fits = whole_fits h g y v W pos low within small most premise

  close : Close (s * h) S T
  close = rw (sum_cong _ _ 0 h (λ c l u. weight_shrink h g y c low) ∙ shrink_total h g y within) at (close_weighted (weight h g y) v e s h near)

  -- the first half and what comes off it
  abbrev w : ℕ
  w = whole h g v y

  abbrev f : ℕ
  f = share_before h g v (suc y)

  f_in : f ≤ w
  f_in = share_in_whole h g y v pos low within

  most_t : T ≤ 255 * (W * h)
  most_t = let t = weighed_most h g y e pos low within (255 * W) bytes in omega arith

  byte : Near (mult (w - f) (ratio W h g)) T (W * h)
  unfolding ratio
  byte =
      let left : w - f + f ≡ w = omega (arith, f_in) in
      let high = left_high h g y v W pos low within small most (w - f) left in
      let deep = left_low h g y v W pos low within small most (w - f) left in
      let a : w - f ≤ 2 ^ 30 = go (w - f) S T (mul-le-mul_right g narrow) high close.above most_t (mul-le-mul_right h slack) in
      byte_near (w - f) g h W s S T slack (omega arith) low a high deep close
    where
      go : (a S T : ℕ) → W * g ≤ 16384 * g → 1024 * (a * g) < 1024 * S + 1024 * g + W * g → 2 * S ≤ 2 * T + s * h → T ≤ 255 * (W * h) → suc s * h ≤ W * h → a ≤ 2 ^ 30
      go a S T nar high cl mo sl = (let l : a * g < 2 ^ 30 * g = omega (arith, premise) in let k : a < 2 ^ 30 = lt_of_mul-lt-mul_right g l in omega arith)

  -- q = 2^32: both rests are 0, and the first half is the byte
  same : (W ≡ 1) × (g ≡ h) → Near (w % 256) T (W * h)
  same (one, equal) =
      let before : since h g y * g - y * h ≡ 0 =
      omega (arith, times y equal, since_low h g y pos low, rest_none g (since h g y) y (omega (arith, times y equal, since_low h g y pos low)) (omega (arith, times y equal, since_high h g y pos low))) in
      let after : needed h g y * g - suc y * h ≡ 0 =
      omega (arith, times y equal, down_low h g y pos low, rest_none g (needed h g y) (suc y) (omega (arith, times y equal, down_low h g y pos low)) (omega (arith, times y equal, down_high h g y pos low))) in
      let b0 : rest_before h g v y ≡ 0 = ap (λ (t : ℕ). t * newest v (since h g y)) before ∙ zero-mul (newest v (since h g y)) in
      let a0 : rest_after h g v y ≡ 0 = ap (λ (t : ℕ). t * newest v (needed h g y)) after ∙ zero-mul (newest v (needed h g y)) in
      exactly _ _ _ _ (share_before h g v y) (sum v (since h g y) (needed h g y - since h g y)) (weighed_sum h g y v pos low within) a0 b0 (rest_before_lem h g y v W pos low within small most).not_above close most_t
    where
      exactly : (x z a b k t : ℕ) → x + a ≡ b + g * t → a ≡ 0 → b ≡ 0 → k * g ≤ b → Close (s * h) x z → z ≤ 255 * (W * h) → Near ((k + t) % 256) z (W * h)
      exactly x z a b k t q a0 b0 kb c m =
          let none : s * h ≡ 0 = ap (λ (r : ℕ). r * h) (let r : s ≡ 0 = omega arith in r) ∙ zero-mul h in
          let all : W * h ≡ g = omega (arith, ap (λ (r : ℕ). r * h) one) in
          let is : (k + t) * g ≡ z = omega arith in
          let byte : k + t ≤ 255 = le_of_mul-le-mul_right {k = g} (omega arith) pos in
          let low_byte : (k + t) % 256 ≡ k + t = omega arith in
          rw (low_byte, all) (omega arith)

  pub distance_down : Near (scaled_byte W h g v y) (sum (λ c. weight h g y c * e c) 0 h) (W * h)
  distance_down =
      rw (scaled_down W h g v y low, first_exact h g y v (omega (arith, fits))) (by (le_or_lt (ratio W h g) (2 ^ 32)))
    where
      part : ratio W h g ≢ 2 ^ 32 → Near (byte_down (ratio W h g) w f) T (W * h)
      part ne = rw (byte_part (ratio W h g) w f ne, wrap_sub_exact w f f_in (omega (arith, fits))) (near_clamp (mult (w - f) (ratio W h g)) T (W * h) most_t byte)

      by : (ratio W h g ≤ 2 ^ 32) ⊎ (2 ^ 32 < ratio W h g) → Near (byte_down (ratio W h g) w f) T (W * h)
      by (inr more) = part (omega arith)
      by (inl less) = also (eq-or-lt_of_le less)
        where
          also : (ratio W h g ≡ 2 ^ 32) ⊎ (ratio W h g < 2 ^ 32) → Near (byte_down (ratio W h g) w f) T (W * h)
          also (inr below) = part (omega arith)
          also (inl full) = rw (byte_whole (ratio W h g) w f full) (same (ratio_whole W h g (omega arith) pos low full))
