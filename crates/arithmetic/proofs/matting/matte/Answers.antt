-- `matte` meets its contract: the product of two bytes and a half fit 16 bits, and the two quotients by 256 are the definition's (`matte_halves`). Assumes nothing.
use Rattle.std.proofs.Common.{sym, arith}
use Rattle.arithmetic.proofs.Products.{byte_product}
use Rattle.arithmetic.proofs.Mattes.{matte_halves}
use Rattle.arithmetic.proofs.matting.matte.Goals as goal

pub overflow_mul-t : goal.overflow_mul-t
overflow_mul-t c = omega (arith, byte_product {x = c.args.colour} {y = c.args.alpha} (omega arith) (omega arith))

pub overflow_add-t : goal.overflow_add-t
overflow_add-t c = omega (arith, byte_product {x = c.args.colour} {y = c.args.alpha} (omega arith) (omega arith))

pub overflow_add-result : goal.overflow_add-result
overflow_add-result c = omega (arith, byte_product {x = c.args.colour} {y = c.args.alpha} (omega arith) (omega arith))

pub overflow_cast-result : goal.overflow_cast-result
overflow_cast-result c = omega (arith, byte_product {x = c.args.colour} {y = c.args.alpha} (omega arith) (omega arith))

pub returns : goal.returns
returns c = sym (matte_halves c.args.colour c.args.alpha (omega arith) (omega arith))
