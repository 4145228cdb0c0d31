-- The two tests of a side. Assumes nothing.
use Rattle.pixels.specs.Sizes.{bad_side}
use borrow.Author.Tests.{eq-eqb, ne_eqb}
use Rattle.pixels.proofs.sizes.bad_side.Goals as goal

pub returns-then-side-eq0 : goal.returns-then-side-eq0
unfolding bad_side
returns-then-side-eq0 c = simp (eq-eqb _ _ c.if-side-eq0.true)

pub returns : goal.returns
unfolding bad_side
returns c = simp (ne_eqb _ _ c.if-side-eq0.false)
