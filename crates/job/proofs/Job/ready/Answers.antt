-- The rules have t at most R(k), so that the difference is not cut off, and R(k) is at most the target height. Assumes nothing.
use mathlib.Core.Path.{sym, ap, ◌∙◌}
use mathlib.Core.Bool.{not}
use native.Mathlib.Omega.{arith}
use borrow.Author.Tests.{not-true, not-false}
use Rattle.job.proofs.Answering.{made_fits}
use Rattle.job.proofs.Ready.{ready_none, ready_some}
use Rattle.job.proofs.Views.{lawful_of_lem}
use Rattle.job.proofs.Job.ready.Goals as goal

pub returns-then-not-check : goal.returns-then-not-check
returns-then-not-check c = ready_none c.args.self (sym c.check.ensures ∙ not-true _ c.if-not-check.true-raw)

pub overflow_sub-result : goal.overflow_sub-result
overflow_sub-result c =
    let j = c.args.self in
    let law = sym c.check.ensures ∙ not-false _ c.if-not-check.false-raw in
    omega (arith, (lawful_of_lem j (ap not law)).high, c.made-made.ensures)

pub overflow_cast-result-2 : goal.overflow_cast-result-2
overflow_cast-result-2 c =
    let j = c.args.self in
    let law = sym c.check.ensures ∙ not-false _ c.if-not-check.false-raw in
    omega (arith, made_fits j (lawful_of_lem j (ap not law)), c.made-made.ensures)

pub returns : goal.returns
returns c =
    let j = c.args.self in
    let law = sym c.check.ensures ∙ not-false _ c.if-not-check.false-raw in
    ready_some j _ law c.made-made.ensures
