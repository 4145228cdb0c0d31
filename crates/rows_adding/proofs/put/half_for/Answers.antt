-- `half_for`: the test of the heights, then that of the row: the cases of the definition. Assumes nothing.
use Rattle.std.proofs.Common.{sym}
use Rattle.rows_adding.proofs.Putting.{half_odd}
use Rattle.rows_adding.proofs.put.half_for.Goals as goal

pub returns : goal.returns
returns c = let a = c.args in sym (half_odd a.h a.g a.w a.c c.if-g-h.false c.if-c-eq0.false)
