-- A count is outside 1 to 4 where it is 0 or passes the most there are. Assumes nothing.
use Rattle.pixels.specs.Sizes.{bad_lanes}
use borrow.Author.Tests.{eq-eqb, ne_eqb}
use Rattle.pixels_sizes.proofs.bad_lanes.Goals as goal

pub returns-then-lanes-eq0 : goal.returns-then-lanes-eq0
unfolding bad_lanes
returns-then-lanes-eq0 c = simp (eq-eqb _ _ c.if-lanes-eq0.true)

pub returns : goal.returns
unfolding bad_lanes
returns c = simp (ne_eqb _ _ c.if-lanes-eq0.false)
