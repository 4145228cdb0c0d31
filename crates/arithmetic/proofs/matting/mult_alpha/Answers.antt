-- `mult_alpha` meets its contract: a byte times a word and a half fit 64 bits, and the quotient 16. Assumes nothing.
use Rattle.std.proofs.Common.{mul-le-mul_right, arith}
use Rattle.arithmetic.proofs.Products.{most}
use Rattle.arithmetic.proofs.Mattes.{scale_is}
use Rattle.arithmetic.proofs.matting.mult_alpha.Goals as goal

pub overflow_mul-result : goal.overflow_mul-result
overflow_mul-result c = omega (arith, most c.ranges.colour.fits c.ranges.scale.fits)

pub overflow_add-result : goal.overflow_add-result
overflow_add-result c = omega (arith, most c.ranges.colour.fits c.ranges.scale.fits)

pub overflow_cast-result-3 : goal.overflow_cast-result-3
overflow_cast-result-3 c = omega (arith, mul-le-mul_right c.args.scale c.requires)

pub returns : goal.returns
returns c = omega (arith, scale_is c.args.colour c.args.scale)
