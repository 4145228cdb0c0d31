-- The product of two sides of 32 bits fits 64. Assumes nothing.
use Rattle.arithmetic.proofs.Products.{most}
use native.Mathlib.Omega.{arith}
use Rattle.pixels.proofs.Dimensions.pixel_count.Goals as goal

pub overflow_mul-result : goal.overflow_mul-result
overflow_mul-result c = omega (arith, most {x = c.args.self.width} {y = c.args.self.height} (omega arith) (omega arith))
