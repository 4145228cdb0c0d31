-- A count beyond the limit or too few words tell nothing. The invariant: the jobs read so far are legal, and stand in their places; the first that is none ends it. Assumes nothing.
use Rattle.capi_group_record.proofs.Groups.{GroupRead}
use Rattle.capi_group_record.proofs.read_group.Given as goal

abbrev pub invariant-loop-i : goal.invariant-loop-i
invariant-loop-i l = GroupRead l.words l.n l.i l.group
