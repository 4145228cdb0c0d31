-- The invariant: the bytes of the pixels passed, then the buffer as it was. Assumes nothing.
use mathlib.Core.List.{◌++◌}
use mathlib.Core.Path.{◌≡◌}
use Rattle.pixels_layout.specs.Layout.{packed_byte}
use Rattle.pixels.specs.Sizes.{pixel_lanes}
use Rattle.arithmetic.specs.Table.{tabulate}
use lib.ListN.{length, get_or, drop}
use mathlib.Core.List.{◌++◌}
use mathlib.Core.Path.{◌≡◌}
use Prim.Native.Nat.{◌*◌}
use Rattle.pixels_packing.proofs.pack_into.Given as goal

abbrev pub invariant-loop-i : goal.invariant-loop-i
invariant-loop-i l = (length l.out ≡ length l.initial.out) × (l.out ≡ tabulate (packed_byte l.layout (λ j. get_or l.argb j 0)) (pixel_lanes * l.i) ++ drop (pixel_lanes * l.i) l.initial.out)
