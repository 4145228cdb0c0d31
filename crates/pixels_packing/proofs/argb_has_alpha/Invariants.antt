-- The invariant: no pixel passed has an alpha other than 255. Assumes nothing.
use mathlib.Core.Path.{◌≡◌}
use Rattle.pixels_alpha.specs.Alpha.{some_clear}
use Rattle.pixels_layout.specs.Layout.{alpha_lane}
use Rattle.arithmetic.specs.Matte.{lane_of}
use lib.ListN.{get_or}
use mathlib.Core.Bool.{false}
use mathlib.Core.Path.{◌≡◌}
use Rattle.pixels_packing.proofs.argb_has_alpha.Given as goal

abbrev pub invariant-loop-pixel : goal.invariant-loop-pixel
invariant-loop-pixel l = (some_clear (λ j. lane_of (get_or l.argb j 0) alpha_lane) l.pixel-index ≡ false)
