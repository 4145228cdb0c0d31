-- `next`: one pixel more where the parts left over do not reach; in words nothing wraps where the column stands in its row. Assumes nothing.
use Rattle.std.proofs.Common.{arith}
use Rattle.rows.proofs.NextColumn.{shared_longer, shared_even, to_longer, to_even, over_longer, over_even}
use Rattle.rows.proofs.Sharing.next.Goals as goal

pub returns-then-c-self-clause-to : goal.returns-then-c-self-clause-to
returns-then-c-self-clause-to c = let a = c.args.self in to_longer a.n a.m a.each_is a.rest_is c.args.c.to c.args.c.over c.if-c-self.true (omega arith)

pub returns-then-c-self-clause-over : goal.returns-then-c-self-clause-over
returns-then-c-self-clause-over c = let a = c.args.self in over_longer a.n a.m a.each_is a.rest_is 0 c.args.c.over c.if-c-self.true (omega (arith, c.well_formed))

pub returns-then-c-self-clause-stands : goal.returns-then-c-self-clause-stands
returns-then-c-self-clause-stands c s = let a = c.args.self in shared_longer a.n a.m a.each a.rest c.args.c.to c.args.c.over a.parts a.rest_small s c.if-c-self.true

pub returns-clause-to : goal.returns-clause-to
returns-clause-to c = let a = c.args.self in to_even a.n a.m a.each_is a.rest_is c.args.c.to c.args.c.over c.if-c-self.false (omega arith)

pub returns-clause-over : goal.returns-clause-over
returns-clause-over c = let a = c.args.self in over_even a.n a.m a.each_is a.rest_is 0 c.args.c.over c.if-c-self.false (omega (arith, c.well_formed)) (omega arith)

pub returns-clause-stands : goal.returns-clause-stands
returns-clause-stands c s = let a = c.args.self in shared_even a.n a.m a.each a.rest c.args.c.to c.args.c.over a.parts a.rest_small s c.if-c-self.false
