-- Too few words tell nothing. The invariant: the plans read so far are legal, and stand in their places; the first that is none ends it. Assumes nothing.
use native.Mathlib.Omega.{arith}
use Rattle.capi_group_record.proofs.Groups.{plans_first, plans_more, plan_here, no_plan_here, few_words, few_lent, plan_not, plans_read}
use Rattle.capi_group_record.proofs.read_plans.Goals as goal

pub returns-then-words-n : goal.returns-then-words-n
returns-then-words-n c = few_words c.args.words.now c.args.count c.args.lent _ c.looked_at-n.ensures c.if-words-n.true

pub returns-then-lent-n : goal.returns-then-lent-n
returns-then-lent-n c = few_lent c.args.words.now c.args.count c.args.lent _ c.looked_at-n.ensures c.if-words-n.false c.if-lent-n.true

pub loop-i-init : goal.loop-i-init
loop-i-init c = plans_first c.args.words.now _ c.no_job.ensures

pub returns-in_default : goal.returns-in_default
returns-in_default c =
    let g = c.args in
    let i = c.loop-i.i in
    let none = no_plan_here g.words.now i c.read_plan.ensures c.in_default.is in
    plan_not g.words.now g.count g.lent _ c.looked_at-n.ensures c.if-words-n.false c.if-lent-n.false i c.loop-i-test.true none

pub loop-i-preserved : goal.loop-i-preserved
loop-i-preserved c =
    let g = c.args in
    let l = c.loop-i in
    plans_more g.words.now l.i l.plans c.in-Some.job.plan l.invariant (plan_here g.words.now l.i c.read_plan.ensures c.in-Some.job c.in-Some.is)

pub returns : goal.returns
returns c =
    let g = c.args in
    let l = c.loop-i in
    plans_read g.words.now g.count g.lent _ c.looked_at-n.ensures l.i l.plans c.if-words-n.false c.if-lent-n.false l.invariant (omega arith)
