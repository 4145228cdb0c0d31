-- `level_lanes` meets its contract: each turn stores the byte of the newer value; the factor fits the signed tests where they are used. Assumes nothing.
use Rattle.rows_scaling.proofs.BlendLanes.{grow_first, level_one}
use Rattle.arithmetic.proofs.Stores.{filled}
use Rattle.std.proofs.Common.{refl}
use Rattle.rows_scaling.proofs.level_lanes.Goals as goal

pub loop-k-init : goal.loop-k-init
loop-k-init c = grow_first 0 c.args.factor.by c.requires

pub loop-k-preserved : goal.loop-k-preserved
loop-k-preserved c = level_one c.loop-k.invariant c.loop-k-test.true c.byte.ensures

pub returns : goal.returns
returns c = filled c.loop-k.invariant.bytes refl c.loop-k-test.false
