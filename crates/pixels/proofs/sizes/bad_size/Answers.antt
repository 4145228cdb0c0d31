-- Both sides of a size. Assumes nothing.
use Rattle.pixels.specs.Sizes.{bad_size}
use mathlib.Core.Path.{sym, ◌∙◌}
use Rattle.pixels.proofs.sizes.bad_size.Goals as goal

pub returns-then-bad_side : goal.returns-then-bad_side
unfolding bad_size
returns-then-bad_side c = simp (sym c.bad_side.ensures ∙ c.if-bad_side.true)

pub returns : goal.returns
unfolding bad_size
returns c = simp (sym c.bad_side.ensures ∙ c.if-bad_side.false) c.bad_side-2.ensures
