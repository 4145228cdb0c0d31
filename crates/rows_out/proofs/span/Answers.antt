-- `span` meets its contract: the two cases of SCOPE. Assumes nothing.
use mathlib.Core.Path.{sym}
use Rattle.arithmetic.proofs.Weights.{span_shrink, span_grow}
use Rattle.rows_out.proofs.span.Goals as goal

pub returns-then-m-n : goal.returns-then-m-n
returns-then-m-n c = sym (span_shrink c.args.n c.args.m c.if-m-n.true)

pub returns : goal.returns
returns c = sym (span_grow c.args.n c.args.m c.if-m-n.false)
