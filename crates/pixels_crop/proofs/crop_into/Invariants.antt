-- The invariant: the windows of the rows passed, joined, then the buffer as it was. Assumes nothing.
use Rattle.pixels_crop.specs.Crop.{cropped_rows}
use Rattle.pixels.specs.Sizes.{pixel_lanes, row_bytes}
use lib.ListN.{length, drop}
use mathlib.Core.List.{◌++◌}
use mathlib.Core.Path.{◌≡◌}
use Prim.Native.Nat.{◌*◌}
use Rattle.pixels_crop.proofs.crop_into.Given as goal

abbrev pub invariant-loop-i : goal.invariant-loop-i
invariant-loop-i l = (length l.out ≡ length l.initial.out) × (l.out ≡ cropped_rows l.pixels l.source.width l.rect l.i ++ drop (row_bytes pixel_lanes l.rect.width * l.i) l.initial.out)
