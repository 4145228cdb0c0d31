-- `part`: a byte times the parts. Assumes nothing.
use Rattle.std.proofs.Common.{ℕ, ap, ◌∙◌, mul-le-mul, arith}
use Rattle.arithmetic.specs.Word.{wrap_mul}
use Rattle.rows_widening.specs.Inner.{byte_of}
use Rattle.rows_widening.proofs.part.Goals as goal

pub overflow_mul-lanes : goal.overflow_mul-lanes
overflow_mul-lanes c = let q = c.requires in omega (arith, mul-le-mul {n₁ = c.args.lanes} {m₁ = c.args.x} {n₂ = 4} {m₂ = 16384} q.lanes_small (omega (arith, q.x_small)))

pub overflow_add-lanes : goal.overflow_add-lanes
overflow_add-lanes c = let q = c.requires in omega (arith, q.lane, q.lanes_small, mul-le-mul {n₁ = c.args.lanes} {m₁ = c.args.x} {n₂ = 4} {m₂ = 16384} q.lanes_small (omega (arith, q.x_small)))

pub byte-requires : goal.byte-requires
byte-requires c = let q = c.requires in omega (arith, q.lane, q.inside)

pub returns : goal.returns
unfolding byte_of
returns c = c.wrapping_mul.ensures ∙ ap (λ (b : ℕ). wrap_mul b c.args.parts) c.byte.ensures.is
