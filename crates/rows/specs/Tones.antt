-- A byte of a pixel as it is summed: matted by the pixel's alpha; the alpha itself stays. All four bytes by one formula, the alpha's factor made 255 by an or.
-- Assumes nothing.
use Rattle.std.specs.Prelude.{ℕ, zero, suc, ◌%◌, cond, List, ◌==◌, bit_or}
use Rattle.arithmetic.specs.Matte.{scale_colour, matte_factor}
use Rattle.rows.specs.declared.Own.{Own}
use Rattle.rows.specs.Inner.Import.{byte_at}

abbrev pub own_of : Own → ℕ → ℕ
own_of o zero = o.a
own_of o (suc zero) = o.b
own_of o (suc (suc zero)) = o.c
own_of o (suc (suc (suc k))) = o.d

-- what is or-ed to the alpha for byte k, where the alpha stands at `place`
unfoldable pub own_at : ℕ → ℕ → ℕ
own_at place k = cond (k == place) 255 0

-- the alpha with the low bits of `own`
unfoldable pub orred : ℕ → ℕ → ℕ
orred alpha own = bit_or alpha (own % 256)

unfoldable pub toned : ℕ → ℕ → ℕ → ℕ
toned byte alpha own = scale_colour byte (matte_factor (orred alpha own))

-- byte k of pixel x as it is summed, where the alpha stands at `place`
unfoldable pub toned_at : List ℕ → ℕ → ℕ → ℕ → ℕ
toned_at s place k x = toned (byte_at s k x) (byte_at s place x) (own_at place k)
