-- `mult_fix_floor` meets its contract: the product fits 64 bits, and the quotient 32. Assumes nothing.
use Rattle.std.proofs.Common.{arith, rules}
use Rattle.arithmetic.proofs.Products.{most}
use Rattle.arithmetic.specs.FixedPoint.{floor}
use Rattle.arithmetic.proofs.mult_fix_floor.Goals as goal

pub overflow_mul-result : goal.overflow_mul-result
overflow_mul-result c = omega (arith, most c.ranges.x.fits c.ranges.y.fits)

pub overflow_cast-result-3 : goal.overflow_cast-result-3
overflow_cast-result-3 c = omega (arith, most c.ranges.x.fits c.ranges.y.fits)

pub returns : goal.returns
unfolding floor
returns c = search rules
