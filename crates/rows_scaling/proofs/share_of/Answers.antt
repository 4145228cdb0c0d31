-- `share_of` meets its contract: a product with 0 is 0. Assumes nothing.
use Rattle.rows_scaling.proofs.ShrinkLanes.{floor_none}
use Rattle.rows_scaling.proofs.share_of.Goals as goal

pub returns-then-step-eq0 : goal.returns-then-step-eq0
returns-then-step-eq0 c = floor_none c.args.second c.if-step-eq0.true

pub returns : goal.returns
returns c = c.mult_fix_floor.ensures
