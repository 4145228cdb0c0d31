-- The invariant: no pixel passed has an alpha other than 255. Assumes nothing.
use Rattle.pixels_alpha.specs.Alpha.{some_clear}
use Rattle.pixels.specs.Sizes.{pixel_lanes}
use lib.ListN.{get_or}
use mathlib.Core.Bool.{false}
use mathlib.Core.Path.{◌≡◌}
use Prim.Native.Nat.{◌≤◌, ◌+◌, ◌*◌, ◌-◌}
use Rattle.pixels_alpha.proofs.has_alpha.Given as goal

abbrev pub invariant-loop-i : goal.invariant-loop-i
invariant-loop-i l = (some_clear (λ j. get_or l.bytes (pixel_lanes * j + l.a) 0) l.i ≡ false)
