-- Quotients by a variable, rounded down and up. For omega such a quotient is an unknown: these are the facts to hand to it. Assumes nothing.
use Rattle.std.proofs.Common.{◌≡◌, ℕ, ◌+◌, ◌-◌, ◌*◌, ◌/◌, ◌<◌, ◌≤◌, le_trans, mod-lt, div-lt_iff_lt-mul, lt_of_mul-lt-mul_right, le-div_iff_mul-le, arith}
use native.Mathlib.Nat.{div-add-mod, div-eq_of_lt-le}
use Rattle.arithmetic.specs.Quotient.{ceil}

-- ---- rounded down
pub div_low : (x d : ℕ) → x / d * d ≤ x
div_low x d = omega (arith, div-add-mod x d)

pub div_high : (x d : ℕ) → 0 < d → x < x / d * d + d
div_high x d h = omega (arith, div-add-mod x d, mod-lt x h)

-- the quotient is q
pub div_is : {x : ℕ} (d : ℕ) {q : ℕ} → q * d ≤ x → x < q * d + d → x / d ≡ q
div_is d h k = div-eq_of_lt-le d h (omega arith)

pub div_mono : {x y : ℕ} (d : ℕ) → 0 < d → x ≤ y → x / d ≤ y / d
div_mono {x} {y} d p h = (le-div_iff_mul-le p).1 (le_trans (div_low x d) h)

pub div_bound : {x k : ℕ} (d : ℕ) → 0 < d → x < k * d → x / d < k
div_bound d p h = (div-lt_iff_lt-mul p).1 h

pub div_least : {x k : ℕ} (d : ℕ) → 0 < d → k * d ≤ x → k ≤ x / d
div_least d p h = (le-div_iff_mul-le p).1 h

-- ---- rounded up: ceil x d is the least q with x ≤ q × d
pub ceil_low : (x d : ℕ) → 0 < d → x ≤ ceil x d * d
unfolding ceil
ceil_low x d p = omega (arith, div_high (x + (d - 1)) d p)

pub ceil_high : (x d : ℕ) → 0 < d → ceil x d * d < x + d
unfolding ceil
ceil_high x d p = omega (arith, div_low (x + (d - 1)) d)

pub ceil_le : {x k : ℕ} (d : ℕ) → 0 < d → x ≤ k * d → ceil x d ≤ k
ceil_le {x} {k} d p h =
    let q : ceil x d * d < (k + 1) * d = omega (arith, ceil_high x d p) in
    omega (arith, lt_of_mul-lt-mul_right d q)

pub ceil_mono : {x y : ℕ} (d : ℕ) → 0 < d → x ≤ y → ceil x d ≤ ceil y d
ceil_mono {x} {y} d p h = ceil_le d p (le_trans h (ceil_low y d p))

-- the ceiling is q, with r to spare
pub ceil_is : (x d : ℕ) {q r : ℕ} → r < d → q * d ≡ x + r → ceil x d ≡ q
unfolding ceil
ceil_is x d small e = div_is d (omega arith) (omega arith)
