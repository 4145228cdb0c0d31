-- Work values (SCOPE, "Fixed point and matting"): they "are 32-bit and wrap", so a sum, a difference and a product are taken modulo 2^32.
-- Assumes nothing.
use Rattle.std.specs.Prelude.{ℕ, ◌+◌, ◌-◌, ◌*◌, ◌%◌, ◌^◌}

-- what std::num::wrapping_add_u32 gives
abbrev pub wrap_add : ℕ → ℕ → ℕ
wrap_add a b = (a + b) % 2 ^ 32

-- what std::num::wrapping_sub_u32 gives; b is below 2^32, so the difference is not cut off
abbrev pub wrap_sub : ℕ → ℕ → ℕ
wrap_sub a b = (a + 2 ^ 32 - b) % 2 ^ 32

-- what `wrapping_mul` gives
abbrev pub wrap_mul : ℕ → ℕ → ℕ
wrap_mul a b = (a * b) % 2 ^ 32
