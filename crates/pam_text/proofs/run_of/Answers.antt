-- The invariant: the run of the whole is i bytes and the run of what is left. Assumes nothing.
use Rattle.pam_text.proofs.Texts.{run_first, run_turn, run_stop, run_done}
use borrow.Author.Tests.{not-true, not-false}
use native.Mathlib.Omega.{arith}
use lib.ListN.{length}
use mathlib.Core.Path.{◌≡◌, sym, ◌∙◌}
use Rattle.pam_text.proofs.run_of.Goals as goal

pub loop-i-init : goal.loop-i-init
loop-i-init c = run_first _ _

pub returns-then-not-is_of : goal.returns-then-not-is_of
returns-then-not-is_of c = run_stop c.loop-i.invariant c.loop-i-test.true (sym c.is_of.ensures ∙ not-true _ c.if-not-is_of.true-raw)

pub loop-i-preserved : goal.loop-i-preserved
loop-i-preserved c = run_turn c.loop-i.invariant c.loop-i-test.true (sym c.is_of.ensures ∙ not-false _ c.if-not-is_of.false-raw)

pub returns : goal.returns
returns c =
    let all : c.loop-i.i ≡ length c.args.s.now = omega arith in
    sym all ∙ run_done c.loop-i.invariant (omega arith)
