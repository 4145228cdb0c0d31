-- `level_lanes` meets its contract: each turn stores the byte of the newer value; the factor fits the signed tests where they are used. Assumes nothing.
use Rattle.rows_scaling.proofs.BlendLanes.{Grown}
use Rattle.std.proofs.Common.{length}
use Rattle.rows_scaling.proofs.level_lanes.Given as goal

abbrev pub invariant-loop-k : goal.invariant-loop-k
invariant-loop-k l = Grown 0 l.factor.by l.work l.new l.new l.initial.out l.out (length l.initial.out) l.k
