-- None of a record that breaks the rules. Assumes nothing.
use Rattle.job_band.proofs.Testing.{next_none, next_some}
use Rattle.job_rules.proofs.Rules.{rules_of}
use Rattle.pixels.proofs.Truths.{not_true, not_false}
use mathlib.Core.Path.{sym, ◌∙◌}
use Rattle.job_band.proofs.band_rows.Goals as goal

pub returns-then-not-check : goal.returns-then-not-check
returns-then-not-check c = let j = c.args.j in next_none j (sym c.check.ensures ∙ not_true _ c.if-not-check.true-raw)

pub band_of-requires : goal.band_of-requires
band_of-requires c = let j = c.args.j in rules_of j.plan j.accepted j.taken j.flag (sym c.check.ensures ∙ not_false _ c.if-not-check.false-raw)

pub returns : goal.returns
returns c = let j = c.args.j in next_some j _ (sym c.check.ensures ∙ not_false _ c.if-not-check.false-raw) c.band_of.ensures
