-- The four lanes, read where the table says. Assumes nothing.
use mathlib.Core.Path.{◌∙◌}
use native.Mathlib.Omega.{arith}
use Rattle.pixels_layout.proofs.Packing.{unpack_from}
use Rattle.pixels_layout.proofs.PixelLayout.unpack.Goals as goal

pub returns : goal.returns
returns c = let a = c.args in unpack_from a.self a.px _ _ _ _ c.place-b.ensures.is c.place-g.ensures.is c.place-r.ensures.is c.place-a.ensures.is (c.from_le_bytes.ensures ∙ omega arith)
