-- `next_stand`: into the next pixel where the parts of the left one do not reach. Assumes nothing.
use Rattle.std.proofs.Common.{refl, arith}
use Rattle.rows_widening.proofs.next_stand.Goals as goal

pub returns-then-s-step : goal.returns-then-s-step
returns-then-s-step c = let q = c.requires in record { along = omega (arith, q.step_small, c.if-s-step.true); small = omega (arith, c.if-s-step.true); on = (λ l. omega arith, λ l. absurd (omega (arith, c.if-s-step.true))) }

pub returns : goal.returns
returns c = let q = c.requires in record { along = omega (arith, c.if-s-step.false); small = omega (arith, q.most, c.if-s-step.false); on = (λ l. absurd (omega (arith, c.if-s-step.false)), λ l. refl) }
