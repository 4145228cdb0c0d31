-- Each return is the first rule that is broken; the last rule decides. Assumes nothing.
use Rattle.group_rules.proofs.Lawful.{too_many_lem, jobs_unlike, steps_decide}
use Rattle.group_rules.proofs.check_group.Goals as goal

pub returns-then-g-gt-GROUP_LIMIT : goal.returns-then-g-gt-GROUP_LIMIT
returns-then-g-gt-GROUP_LIMIT c = too_many_lem c.args.g c.if-g-gt-GROUP_LIMIT.true

pub returns-then-jobs_differ : goal.returns-then-jobs_differ
returns-then-jobs_differ c = jobs_unlike c.args.g c.if-g-gt-GROUP_LIMIT.false _ c.jobs_differ.ensures c.if-jobs_differ.true

pub returns : goal.returns
returns c =
    steps_decide c.args.g c.if-g-gt-GROUP_LIMIT.false _ c.jobs_differ.ensures c.if-jobs_differ.false _ c.jobs_in_step.ensures
