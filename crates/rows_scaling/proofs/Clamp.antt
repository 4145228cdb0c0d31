-- `clamp` by signed tests is asked for numbers below 2^31: what keeps a product there. Assumes nothing.
use Rattle.std.proofs.Common.{◌≡◌, ℕ, ◌^◌, ◌<◌, Bool, mul-le-mul, arith}
use Rattle.arithmetic.specs.FixedPoint.{mult}
use Rattle.rows_scaling.specs.Inner.Scaling.{Halved}

-- a factor below 2^31 keeps MULT of a word below it
mult_half : {x q : ℕ} → x < 2 ^ 32 → q < 2 ^ 31 → mult x q < 2 ^ 31
unfolding mult
mult_half {x} {q} hx hq =
    omega (arith, mul-le-mul {n₁ = x} {m₁ = q} {n₂ = 0xffff_ffff} {m₂ = 0x7fff_ffff} (omega arith) (omega arith))

pub mult_halved : {signed : Bool} {x q v : ℕ} → Halved signed q → x < 2 ^ 32 → v ≡ mult x q → Halved signed v
mult_halved h x e t = rw e (mult_half x (h t))
