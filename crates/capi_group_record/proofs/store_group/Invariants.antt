-- Too few words are left as they were. The invariant: the count and the words of the first i jobs, then what stood there. Assumes nothing.
use Rattle.capi_group_record.proofs.Groups.{Storing}
use Rattle.capi_group_record.proofs.store_group.Given as goal

abbrev pub invariant-loop-i : goal.invariant-loop-i
invariant-loop-i l = Storing l.group l.initial.words l.words l.i
