-- `alphas`: the invariant is `Adding`. Assumes nothing.
use Rattle.rows_summing.proofs.Opaque.{adding_first, adding_turn}
use Rattle.rows_summing.proofs.alphas.Goals as goal

pub loop-k-init : goal.loop-k-init
loop-k-init c = let a = c.args in adding_first a.sums.now a.place a.count

pub loop-k-preserved : goal.loop-k-preserved
loop-k-preserved c =
    let a = c.args in
    adding_turn a.sums.now a.place a.count c.loop-k.invariant _ _ c.loop-k-test.true c.wide.ensures.is c.wide-in-loop-k.ensures.is c.wide.ensures.small c.wide-in-loop-k.ensures.small
