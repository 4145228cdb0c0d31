-- The two tests, in either case of the first. Assumes nothing.
use borrow.Author.Tests.{lt-ltb}
use Rattle.capi_words.proofs.Boundary.{misused_layout}
use Rattle.capi_words.proofs.misused.Goals as goal

pub returns-then-layout-ge-LAYOUTS : goal.returns-then-layout-ge-LAYOUTS
returns-then-layout-ge-LAYOUTS c = misused_layout c.args.layout c.args.lent c.args.need c.if-layout-ge-LAYOUTS.true

pub returns : goal.returns
returns c = simp (lt-ltb c.args.layout 3 c.if-layout-ge-LAYOUTS.false)
