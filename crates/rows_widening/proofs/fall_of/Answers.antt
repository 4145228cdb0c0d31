-- `fall_of`: what its two calls say, one in the other. Assumes nothing.
use Rattle.std.proofs.Common.{ℕ, ap, ◌∙◌}
use Rattle.arithmetic.specs.Word.{wrap_mul}
use Rattle.rows_widening.proofs.fall_of.Goals as goal

pub returns : goal.returns
returns c = c.wrapping_mul.ensures ∙ ap (λ (t : ℕ). wrap_mul t c.args.step) c.minus.ensures
