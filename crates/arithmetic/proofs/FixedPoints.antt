-- Fixed point against the true quotient: how far MULT, FLOOR and FRAC are off (MATHEMATICS 1.1, 2, 3), and that they are monotone (6). Assumes nothing.
use Rattle.std.proofs.Common.{◌≡◌, ℕ, zero, suc, ◌+◌, ◌*◌, ◌/◌, ◌%◌, ◌^◌, ◌<◌, ◌≤◌, ap, le_of_lt, mul-le-mul_right, mod-eq_of_lt, mul-le-mul, lt_of_mul-lt-mul_right, mul-le-mul_left, mul-zero, arith}
use native.Mathlib.Nat.{le_dest, div-zero}
use Rattle.arithmetic.specs.FixedPoint.{mult, floor, frac}
use Rattle.arithmetic.proofs.Quotients.{div_low, div_high}

-- ---- a rounded product with a ratio q ≈ N * 2^32 / D is within a half and a bit of x * N / D
pub round_high : (x q N D : ℕ) → q * D ≤ N * 2 ^ 32 → 2 * (mult x q * D) ≤ 2 * (x * N) + D
unfolding mult
round_high x q N D h =
    let c : mult x q * 2 ^ 32 ≤ x * q + 2 ^ 31 = omega arith in
    omega (arith, mul-le-mul_right D c, mul-le-mul_left x h)

pub round_low : (x q N D : ℕ) → N * 2 ^ 32 ≤ q * D + D → 2 ^ 32 * (2 * (x * N)) ≤ 2 ^ 32 * (2 * (mult x q * D) + D) + 2 * (x * D)
unfolding mult
round_low x q N D h =
    let c : x * q + 2 ^ 31 ≤ mult x q * 2 ^ 32 + 2 ^ 32 = omega arith in
    omega (arith, mul-le-mul_right D c, mul-le-mul_left x h)

-- ---- the reciprocal of m: the product with 2^32 wraps only for m ≤ 1
pub frac_exact : (a m : ℕ) → a < m → frac a m ≡ a * 2 ^ 32 / m
unfolding frac
frac_exact a m h =
    mod-eq_of_lt (lt_of_mul-lt-mul_right m (omega (arith, div_low (a * 2 ^ 32) m, mul-le-mul_right (2 ^ 32) h)))

pub frac_high : (a m : ℕ) → a < m → frac a m * m ≤ a * 2 ^ 32
frac_high a m h = rw (frac_exact a m h) (div_low (a * 2 ^ 32) m)

pub frac_low : (a m : ℕ) → a < m → a * 2 ^ 32 < frac a m * m + m
frac_low a m h = rw (frac_exact a m h) (div_high (a * 2 ^ 32) m (omega arith))

-- ---- B1: c is x / m, rounded
pub mean_high : (x m : ℕ) → 2 ≤ m → 2 * (mult x (frac 1 m) * m) ≤ 2 * x + m
mean_high x m h = omega (arith, round_high x (frac 1 m) 1 m (frac_high 1 m h))

pub mean_low : (x m : ℕ) → 2 ≤ m → m ≤ 16384 → x ≤ 255 * m → 2048 * x ≤ 2048 * (mult x (frac 1 m) * m) + 1026 * m
mean_low x m h k b =
    let f : 2 ^ 32 ≤ frac 1 m * m + m = omega (arith, frac_low 1 m h) in
    omega (arith, round_low x (frac 1 m) 1 m f, mul-le-mul_right m b, mul-le-mul_right (255 * m) k)

-- it is a byte
pub mean_byte : (x m : ℕ) → 2 ≤ m → x ≤ 255 * m → mult x (frac 1 m) ≤ 255
mean_byte x m h b =
    let q : mult x (frac 1 m) * m < 256 * m = omega (arith, mean_high x m h) in
    omega (arith, lt_of_mul-lt-mul_right m q)

-- ---- B2: f is v * d / g, truncated
pub step_exact : (g d : ℕ) → d < g → frac 1 g * d % 2 ^ 32 ≡ frac 1 g * d
step_exact g zero k = rw (mul-zero (frac 1 g))
step_exact g (suc d) k =
    mod-eq_of_lt (lt_of_mul-lt-mul_right g (omega (arith, mul-le-mul_left (suc d) (frac_high 1 g (omega arith)), mul-le-mul_right (2 ^ 32) k)))

-- d / g, as a ratio over 2^32, is FRAC 1 g * d, and too small by d at most
pub step_high : (g d : ℕ) → d < g → frac 1 g * d * g ≤ d * 2 ^ 32
step_high g zero k = omega arith
step_high g (suc d) k = omega (arith, mul-le-mul_left (suc d) (frac_high 1 g (omega arith)))

pub step_low : (g d : ℕ) → d < g → d * 2 ^ 32 ≤ frac 1 g * d * g + d * g
step_low g zero k = omega arith
step_low g (suc d) k = omega (arith, mul-le-mul_left (suc d) (frac_low 1 g (omega arith)))

-- a truncated product with a ratio s ≈ N * 2^32 / D, whose error is at most e / D
pub floor_high : (v s N D : ℕ) → s * D ≤ N * 2 ^ 32 → floor v s * D ≤ v * N
unfolding floor
floor_high v s N D h =
    let c : floor v s * 2 ^ 32 ≤ v * s = omega arith in
    omega (arith, mul-le-mul_right D c, mul-le-mul_left v h)

pub floor_low : (v s N D e : ℕ) → 0 < D → N * 2 ^ 32 ≤ s * D + e → 2 ^ 32 * (v * N) < 2 ^ 32 * (floor v s * D + D) + v * e
unfolding floor
floor_low v s N D e p h =
    let c : suc (v * s) ≤ floor v s * 2 ^ 32 + 2 ^ 32 = omega arith in
    omega (arith, mul-le-mul_right D c, mul-le-mul_left v h)

pub share_high : (v g d : ℕ) → d < g → floor v (frac 1 g * d % 2 ^ 32) * g ≤ v * d
share_high v g d k = rw (step_exact g d k) (floor_high v (frac 1 g * d) d g (step_high g d k))

pub share_low : (v g d : ℕ) → d < g → 2 ^ 32 * (v * d) < 2 ^ 32 * (floor v (frac 1 g * d % 2 ^ 32) * g + g) + v * (d * g)
share_low v g d k =
    rw (step_exact g d k) (floor_low v (frac 1 g * d) d g (d * g) (omega arith) (step_low g d k))

-- for numbers of at most 23 and 14 bits

-- for g ≤ 16384 the ratio's error is one part in 2^18
pub share_low_18 : (v g d : ℕ) → d < g → g ≤ 16384 → 2 ^ 18 * (v * d) < 2 ^ 18 * (floor v (frac 1 g * d % 2 ^ 32) * g + g) + v * d
share_low_18 v g d k l = omega (arith, share_low v g d k, mul-le-mul_left (v * d) l)

-- ---- B3: a position, x * g / (span * h), rounded
pub place_high : (x g S : ℕ) → 2 * (mult x (g * 2 ^ 32 / S) * S) ≤ 2 * (x * g) + S
place_high x g S = round_high x (g * 2 ^ 32 / S) g S (div_low (g * 2 ^ 32) S)

pub place_low : (x g S : ℕ) → 0 < S → 2 ^ 32 * (2 * (x * g)) ≤ 2 ^ 32 * (2 * (mult x (g * 2 ^ 32 / S) * S) + S) + 2 * (x * S)
place_low x g S p = round_low x (g * 2 ^ 32 / S) g S (le_of_lt (div_high (g * 2 ^ 32) S p))

-- ---- B4: monotone
pub mult_mono : {a a' b b' : ℕ} → a ≤ a' → b ≤ b' → mult a b ≤ mult a' b'
unfolding mult
mult_mono h k = omega (arith, mul-le-mul h k)

pub floor_mono : {a a' b b' : ℕ} → a ≤ a' → b ≤ b' → floor a b ≤ floor a' b'
unfolding floor
floor_mono h k = omega (arith, mul-le-mul h k)

pub floor_le : (v s : ℕ) → s ≤ 2 ^ 32 → floor v s ≤ v
unfolding floor
floor_le v s h = omega (arith, mul-le-mul_left v h)

pub left_mono : (v w s : ℕ) → s ≤ 2 ^ 32 → v ≤ w → floor w s + v ≤ floor v s + w
unfolding floor
left_mono v w s h k =
    let (e, p) = le_dest k in
    let q : w * s ≡ v * s + e * s = omega (arith, ap (λ (t : ℕ). t * s) p) in
    omega (arith, mul-le-mul_left e h)

-- ---- a denominator of 0
pub frac_zero : (a : ℕ) → frac a 0 ≡ 0
unfolding frac
frac_zero a = ap (λ (t : ℕ). t % 2 ^ 32) (div-zero (a * 2 ^ 32))

pub frac_word : (a d : ℕ) → frac a d < 2 ^ 32
unfolding frac
frac_word a d = omega arith
