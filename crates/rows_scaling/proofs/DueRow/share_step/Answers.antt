-- d is in its range, so it fits; the step is SCOPE's. Assumes nothing.
use Rattle.std.proofs.Common.{arith}
use Rattle.rows_scaling.proofs.Factors.{step_of}
use Rattle.rows_scaling.proofs.RestRange.{down_low, down_high}
use Rattle.rows_scaling.proofs.DueRow.share_step.Goals as goal

pub overflow_sub-d : goal.overflow_sub-d
overflow_sub-d c = omega (arith, down_low c.args.self.asks c.requires)

pub overflow_cast-d-5 : goal.overflow_cast-d-5
overflow_cast-d-5 c = omega (arith, down_low c.args.self.asks c.requires, down_high c.args.self.asks c.requires)

pub returns : goal.returns
returns c = let a = c.args in step_of a.self.s.h a.self.s.g a.self.used a.self.row c.frac.ensures c.wrapping_mul.ensures
