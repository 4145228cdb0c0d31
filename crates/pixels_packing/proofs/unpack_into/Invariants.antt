-- The invariant: the pixels passed, then the buffer as it was. Assumes nothing.
use mathlib.Core.Path.{◌≡◌}
use Rattle.pixels_layout.specs.Layout.{pixel_at}
use Rattle.arithmetic.specs.Table.{tabulate}
use lib.ListN.{length, drop}
use mathlib.Core.List.{◌++◌}
use mathlib.Core.Path.{◌≡◌}
use Rattle.pixels_packing.proofs.unpack_into.Given as goal

abbrev pub invariant-loop-i : goal.invariant-loop-i
invariant-loop-i l = (length l.out ≡ length l.initial.out) × (l.out ≡ tabulate (pixel_at l.layout l.bytes) l.i ++ drop l.i l.initial.out)
