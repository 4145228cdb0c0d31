-- Fixed point with 32 bits of fraction (SCOPE, "Fixed point and matting"). "Quotients round down." Assumes nothing.
use Rattle.std.specs.Prelude.{ℕ, ◌+◌, ◌*◌, ◌/◌, ◌%◌, ◌^◌}

-- libwebp's MULT_FIX: rounded to the nearest
unfoldable pub mult : ℕ → ℕ → ℕ
mult a b = (a * b + 2 ^ 31) / 2 ^ 32

-- libwebp's MULT_FIX_FLOOR: rounded down
unfoldable pub floor : ℕ → ℕ → ℕ
floor a b = a * b / 2 ^ 32

-- libwebp's WEBP_RESCALER_FRAC: a / d in 2^32ths; an exact 1 wraps, so that FRAC 1 1 is 0.
-- The library's x / 0 is 0, and so is FRAC a 0.
unfoldable pub frac : ℕ → ℕ → ℕ
frac a d = (a * 2 ^ 32 / d) % 2 ^ 32
