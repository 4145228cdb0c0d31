-- Finite sums. Assumes nothing.
use Rattle.std.specs.Prelude.{ℕ, zero, suc, ◌+◌}

-- p a + p (a + 1) + .. : n terms
unfoldable pub sum : (ℕ → ℕ) → ℕ → ℕ → ℕ
sum p a zero = 0
sum p a (suc n) = sum p a n + p (a + n)
