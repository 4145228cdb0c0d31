-- Too few words tell nothing. The invariant: the plans read so far are legal, and stand in their places; the first that is none ends it. Assumes nothing.
use Rattle.capi_group_record.proofs.Groups.{PlansRead}
use Rattle.capi_group_record.proofs.read_plans.Given as goal

abbrev pub invariant-loop-i : goal.invariant-loop-i
invariant-loop-i l = PlansRead l.words l.i l.plans
