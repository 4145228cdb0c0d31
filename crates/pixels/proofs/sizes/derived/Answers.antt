-- A side as asked, or the ceiling; under the `requires` its product is below 2^61. Assumes nothing.
use Rattle.pixels.specs.Sizes.{derived_side}
use Rattle.arithmetic.specs.Quotient.{ceil}
use borrow.Author.Tests.{eq-eqb, ne_eqb}
use native.Mathlib.Nat.{mul-le-mul}
use native.Mathlib.Omega.{arith}
use Rattle.pixels.proofs.sizes.derived.Goals as goal

pub overflow_mul-result : goal.overflow_mul-result
overflow_mul-result c = omega (arith, mul-le-mul {n₁ = c.args.own} {m₁ = c.args.other} {n₂ = 16384} {m₂ = 140737488355328} (omega arith) (omega arith))

pub overflow_add-result : goal.overflow_add-result
overflow_add-result c = omega (arith, mul-le-mul {n₁ = c.args.own} {m₁ = c.args.other} {n₂ = 16384} {m₂ = 140737488355328} (omega arith) (omega arith))

pub returns-then-side-eq0 : goal.returns-then-side-eq0
unfolding derived_side ceil
returns-then-side-eq0 c = simp (eq-eqb _ _ c.if-side-eq0.true)

pub returns : goal.returns
unfolding derived_side
returns c = simp (ne_eqb _ _ c.if-side-eq0.false)
