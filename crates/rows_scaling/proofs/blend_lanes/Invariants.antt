-- `blend_lanes` meets its contract: each turn stores the bytes of two values blended, and where w is odd the last is stored after the loop. Assumes nothing.
use Rattle.rows_scaling.proofs.BlendLanes.{Grown}
use Rattle.std.proofs.Common.{◌≡◌, ◌+◌, ◌*◌, ◌^◌}
use Rattle.rows_scaling.proofs.blend_lanes.Given as goal

abbrev pub invariant-loop-pair : goal.invariant-loop-pair
invariant-loop-pair l = (l.a + l.b ≡ 2 ^ 32) × Grown l.b l.factor.by l.work l.new l.old l.initial.out l.out l.w (2 * l.pair)
