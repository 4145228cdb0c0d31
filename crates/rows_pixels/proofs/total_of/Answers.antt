-- `total_of`: the invariant is `Totalled`. Assumes nothing.
use Rattle.rows_pixels.proofs.Bytes.{totalled_first, totalled_more, totalled_done}
use Rattle.rows_pixels.proofs.total_of.Goals as goal

pub loop-x-init : goal.loop-x-init
loop-x-init c = totalled_first c.args.alpha.place c.args.carry c.args.last c.requires c.add4-total.ensures

pub loop-x-preserved : goal.loop-x-preserved
loop-x-preserved c = totalled_more c.loop-x.invariant c.loop-x-test.true c.one.ensures c.add4-total-in-loop-x.ensures

pub returns : goal.returns
returns c = let a = c.args in totalled_done c.loop-x.invariant a.carry a.last c.loop-x-test.false c.add4-total.ensures
