-- The words of a fresh record, which tells the plan. Assumes nothing.
use mathlib.Core.Path.{◌∙◌}
use Rattle.capi_group_record.proofs.Groups.{plan_told}
use Rattle.capi_group_record.proofs.read_plan.Goals as goal

pub returns : goal.returns
returns c = c.read_job.ensures ∙ plan_told c.args.words.now
