-- Either test of the definition. Assumes nothing.
use borrow.Author.Tests.{eq-eqb, ne_eqb}
use Rattle.job_band.proofs.wrong_stretch.Goals as goal

pub returns-then-bytes-eq0 : goal.returns-then-bytes-eq0
returns-then-bytes-eq0 c = simp (eq-eqb c.args.bytes 0 c.if-bytes-eq0.true)

pub returns : goal.returns
returns c = simp (ne_eqb c.args.bytes 0 c.if-bytes-eq0.false)
