-- `blended` meets its contract: the weights are 2^32 in all, so the sum and a half fit 64 bits and the quotient 32. Assumes nothing.
use Rattle.std.proofs.Common.{get_or}
use Rattle.rows_scaling.proofs.Factors.{mixed_is}
use Rattle.rows_scaling.proofs.blended.Goals as goal

pub returns : goal.returns
returns c =
    let a = c.args in
    mixed_is a.a a.b (get_or a.work.now a.new 0) (get_or a.work.now a.old 0) c.requires.b_value
