-- `restored` meets its contract: a byte times a word and a half fit 64 bits, and the cut is the definition's. Assumes nothing.
use native.Mathlib.Omega.{arith}
use native.Mathlib.Nat.{mul-le-mul_right, le_of_suc-le-suc}
use Rattle.rows_restoring.proofs.RestoredPixels.{cut_none, cut_most}
use Rattle.rows_restoring.proofs.restored.Goals as goal

pub overflow_mul-scaled : goal.overflow_mul-scaled
overflow_mul-scaled c = omega (arith, c.ranges.factor.fits, mul-le-mul_right c.args.factor (le_of_suc-le-suc c.ranges.colour.fits))

pub overflow_add-scaled : goal.overflow_add-scaled
overflow_add-scaled c = omega (arith, c.ranges.factor.fits, mul-le-mul_right c.args.factor (le_of_suc-le-suc c.ranges.colour.fits))

pub returns-then-scaled-lt255 : goal.returns-then-scaled-lt255
returns-then-scaled-lt255 c = cut_none c.args.colour c.args.factor c.if-scaled-lt255.true

pub returns : goal.returns
returns c = cut_most c.args.colour c.args.factor c.if-scaled-lt255.false
