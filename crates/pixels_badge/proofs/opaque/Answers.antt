-- The sum of the four bytes, by the row of the table. Assumes nothing.
use mathlib.Core.Path.{◌∙◌}
use Rattle.pixels_badge.proofs.Words.{opaque_rgba, opaque_argb, opaque_bgra}
use Rattle.pixels_badge.proofs.opaque.Goals as goal

pub returns-in-Rgba8 : goal.returns-in-Rgba8
returns-in-Rgba8 c = let a = c.args in rw c.in-Rgba8.is (c.from_le_bytes.ensures ∙ opaque_rgba a.b a.g a.r)

pub returns-in-Argb8 : goal.returns-in-Argb8
returns-in-Argb8 c = let a = c.args in rw c.in-Argb8.is (c.from_le_bytes-in-Argb8.ensures ∙ opaque_argb a.b a.g a.r)

pub returns-in-Bgra8 : goal.returns-in-Bgra8
returns-in-Bgra8 c = let a = c.args in rw c.in-Bgra8.is (c.from_le_bytes-in-Bgra8.ensures ∙ opaque_bgra a.b a.g a.r)
