-- The count of previews stays a u32.
use Rattle.std.proofs.Common.{◌<◌}
use Rattle.preview.proofs.also.ask_also.Given as goal

abbrev pub invariant-loop-i : goal.invariant-loop-i
invariant-loop-i l = l.asked.count < 4294967296
