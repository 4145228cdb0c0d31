-- The product of two words fits 64 bits. Assumes nothing.
use Prim.Native.Nat.{ℕ, ◌*◌, ◌^◌, ◌<◌}
use native.Mathlib.Omega.{arith}
use mir.Syntax.{w64}
use mir.Val.{Fits}
use Rattle.arithmetic.proofs.Products.{most}
use Rattle.job_rules.proofs.row_bytes.Goals as goal

fits : (x y : ℕ) → x < 2 ^ 32 → y < 2 ^ 32 → Fits w64 (x * y)
fits x y h k = let l = most {x = x} {y = y} h k in omega arith

pub overflow_mul-result : goal.overflow_mul-result
overflow_mul-result c = fits _ _ (omega arith) (omega arith)
