-- `frac` meets its contract: the quotient of a product that fits 64 bits; a quotient by 0 is 0 in the definition too. Assumes nothing.
use Rattle.std.proofs.Common.{sym, rules}
use Rattle.arithmetic.specs.FixedPoint.{frac}
use Rattle.arithmetic.proofs.FixedPoints.{frac_zero}
use Rattle.arithmetic.proofs.frac.Goals as goal

pub returns-then-denom-eq0 : goal.returns-then-denom-eq0
returns-then-denom-eq0 c = rw c.if-denom-eq0.true (sym (frac_zero c.args.numer))

pub returns : goal.returns
unfolding frac
returns c = search rules
