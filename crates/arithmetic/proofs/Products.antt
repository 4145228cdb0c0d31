-- Products of numbers that vary: facts to hand to omega, which multiplies out but multiplies no hypothesis. Assumes nothing.
use Rattle.std.proofs.Common.{◌≡◌, ℕ, ◌+◌, ◌*◌, ◌^◌, ◌<◌, ◌≤◌, ap, mul-le-mul, arith}
use native.Mathlib.Nat.{le_dest}

-- an equation times a factor, for a list: omega (arith, times k e)
pub times : (k : ℕ) {a b : ℕ} → a ≡ b → k * a ≡ k * b
times k e = ap (λ (t : ℕ). k * t) e

-- (b - a) × (d - c) is at least 0
pub cross : {a b c d : ℕ} → a ≤ b → c ≤ d → a * d + b * c ≤ a * c + b * d
cross {a} {b} {c} {d} h k =
    let (x, p) = le_dest h in
    let (y, q) = le_dest k in
    rw (← p, ← q) (omega arith)

-- two numbers of 32 bits: the product and a half fit 64
pub most : {x y : ℕ} → x < 2 ^ 32 → y < 2 ^ 32 → x * y ≤ 0xffff_fffe_0000_0001
most {x} {y} hx hy = mul-le-mul {n₁ = x} {m₁ = y} {n₂ = 0xffff_ffff} {m₂ = 0xffff_ffff} (omega arith) (omega arith)

-- two bytes
pub byte_product : {x y : ℕ} → x ≤ 255 → y ≤ 255 → x * y ≤ 65025
byte_product {x} {y} hx hy = mul-le-mul {n₁ = x} {m₁ = y} {n₂ = 255} {m₂ = 255} hx hy
