-- The invariant: what holds before each line; each way out is a law of what follows. Assumes nothing.
use mathlib.Core.Path.{sym, ◌∙◌, ap}
use mathlib.Core.Bool.{true≢false}
use Rattle.pam_seen.specs.Inner.{after_line}
use Rattle.pam_header.proofs.Going.{begin_none, begin_other, begin, turn_none, turn_bad, turn_end, turn_on}
use Rattle.pam_header.proofs.pam_header.Goals as goal
use Rattle.pam_header.proofs.pam_header.Goals.{then-input-first-via-then-input-first, then-input-first-via-else-input-first+then-not-same, in-Nothing, in_default}

pub returns-then-input-first : goal.returns-then-input-first
returns-then-input-first c =
    elim c.then-input-first.branch [
      | then-input-first-via-then-input-first w ↦ begin_none _ _ c.run_of-first.ensures w.if-input-first.true
      | then-input-first-via-else-input-first+then-not-same w ↦ begin_other _ _ c.run_of-first.ensures _ w.head_of.ensures w.if-input-first.false (sym w.same.ensures ∙ w.if-not-same.true)
    ]

pub loop-tail-init : goal.loop-tail-init
loop-tail-init c = begin _ _ c.run_of-first.ensures _ c.head_of.ensures c.if-input-first.false (sym c.same.ensures ∙ c.if-not-same.false)

pub returns-then-tail-n : goal.returns-then-tail-n
returns-then-tail-n c = turn_none c.loop-tail.invariant _ _ c.tail_of-tail.ensures c.run_of-n.ensures c.if-tail-n.true

pub returns-in-Outside : goal.returns-in-Outside
returns-in-Outside c =
    let g = c.loop-tail in
    let u = c.after_line-t.ensures ∙ ap (after_line g.t) c.line_says-said.ensures in
    turn_bad g.invariant _ _ c.tail_of-tail.ensures c.run_of-n.ensures _ _ c.if-tail-n.false c.head_of-in-loop-tail.ensures u c.in-Outside.is

pub returns-in-Ended : goal.returns-in-Ended
returns-in-Ended c =
    let g = c.loop-tail in
    let u = c.after_line-t.ensures ∙ ap (after_line g.t) c.line_says-said.ensures in
    turn_end g.invariant _ _ c.tail_of-tail.ensures c.run_of-n.ensures _ _ c.if-tail-n.false c.head_of-in-loop-tail.ensures u c.in-Ended.is c.verdict.result c.verdict.ensures

pub loop-tail-preserved : goal.loop-tail-preserved
loop-tail-preserved c =
    let g = c.loop-tail in
    let u = c.after_line-t.ensures ∙ ap (after_line g.t) c.line_says-said.ensures in
    turn_on g.invariant _ _ c.tail_of-tail.ensures c.run_of-n.ensures _ _ c.if-tail-n.false c.head_of-in-loop-tail.ensures u c.in-GoesOn.is

-- a line that says nothing leaves what was seen as it is
pub loop-tail-preserved-then-matches : goal.loop-tail-preserved-then-matches
loop-tail-preserved-then-matches c =
    let g = c.loop-tail in
    let on = turn_on g.invariant _ _ c.tail_of-tail.ensures c.run_of-n.ensures _ g.t c.if-tail-n.false c.head_of-in-loop-tail.ensures in
    elim c.match-matches.branch [
      | in-Nothing w ↦ on (ap (after_line g.t) (sym w.in-Nothing.is ∙ c.line_says-said.ensures)) g.invariant.standing.goes_on
      | in_default w ↦ absurd (true≢false (sym c.if-matches.true ∙ w.matches-is))
    ]
