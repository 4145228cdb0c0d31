-- `wrapping_mul` meets its contract: the product of two words fits 64 bits, and the remainder 32. Assumes nothing.
use Rattle.std.proofs.Common.{arith}
use Rattle.arithmetic.proofs.Products.{most}
use Rattle.arithmetic.proofs.wrapping_mul.Goals as goal

pub overflow_mul-result : goal.overflow_mul-result
overflow_mul-result c = omega (arith, most c.ranges.x.fits c.ranges.y.fits)
