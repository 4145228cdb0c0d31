-- `shrink_lanes` meets its contract: each turn stores f and the byte that it leaves; the ratio is below 2^31, so the byte is clamped by signed tests. Assumes nothing.
use Rattle.rows_scaling.proofs.ShrinkLanes.{shrink_first, shrink_turn}
use Rattle.arithmetic.proofs.Stores.{all_stored, filled}
use Rattle.std.proofs.Common.{refl}
use Rattle.rows_scaling.proofs.shrink_lanes.Goals as goal

pub loop-k-init : goal.loop-k-init
loop-k-init c = shrink_first c.args.step c.args.factor.by c.requires

pub loop-k-preserved : goal.loop-k-preserved
loop-k-preserved c =
    let l = c.loop-k in
    shrink_turn l.invariant c.loop-k-test.true c.share_of-f.type_inv c.wrapping_sub_u32.type_inv
    (c.slice_known-in-loop-k-2-1.given l.k).fits c.share_of-f.ensures c.wrapping_sub_u32.ensures.value c.byte.ensures

pub returns : goal.returns
returns c =
    record {
      out = filled c.loop-k.invariant.bytes refl c.loop-k-test.false;
      work = all_stored c.loop-k.invariant.left c.loop-k-test.false;
    }
