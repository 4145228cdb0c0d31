-- `take_lanes` meets its contract: each turn stores the low byte and a 0. Assumes nothing.
use Rattle.rows_scaling.proofs.ShrinkLanes.{take_first, take_turn}
use Rattle.arithmetic.proofs.Stores.{all_stored, filled}
use Rattle.std.proofs.Common.{refl}
use Rattle.rows_scaling.proofs.take_lanes.Goals as goal

pub loop-k-init : goal.loop-k-init
loop-k-init c = take_first c.requires

pub loop-k-preserved : goal.loop-k-preserved
loop-k-preserved c = take_turn c.loop-k.invariant c.loop-k-test.true

pub returns : goal.returns
returns c =
    record {
      out = filled c.loop-k.invariant.bytes refl c.loop-k-test.false;
      work = all_stored c.loop-k.invariant.left c.loop-k-test.false;
    }
