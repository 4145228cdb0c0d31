-- Arithmetic modulo 2^32: when a wrapping difference, sum or product is the plain one. omega does sums, differences and nested remainders by 2^32 unaided.
-- Assumes nothing.
use Rattle.std.proofs.Common.{◌≡◌, ℕ, ◌+◌, ◌-◌, ◌*◌, ◌%◌, ◌^◌, ◌<◌, ◌≤◌, arith}
use Rattle.arithmetic.specs.Word.{wrap_add, wrap_sub, wrap_mul}

-- the kit's wrapping difference, r of a and b, is wrap_sub; below a whole number that is a plain difference
pub wrap_sub_is : (r a b : ℕ) → r < 2 ^ 32 → a < 2 ^ 32 → b < 2 ^ 32 → (r + b) % 2 ^ 32 ≡ a → r ≡ wrap_sub a b
wrap_sub_is r a b hr ha hb e = omega arith

pub wrap_sub_exact : (a b : ℕ) → b ≤ a → a < 2 ^ 32 → wrap_sub a b ≡ a - b
wrap_sub_exact a b le h = omega arith

pub wrap_add_exact : (a b : ℕ) → a + b < 2 ^ 32 → wrap_add a b ≡ a + b
wrap_add_exact a b h = omega arith

pub wrap_mul_exact : (a b : ℕ) → a * b < 2 ^ 32 → wrap_mul a b ≡ a * b
wrap_mul_exact a b h = omega arith
