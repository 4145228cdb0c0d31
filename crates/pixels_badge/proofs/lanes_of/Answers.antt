-- The bytes of the word, by the row of the table. Assumes nothing.
use Rattle.pixels_badge.proofs.Words.{lanes_rgba, lanes_argb, lanes_bgra}
use Rattle.pixels_badge.proofs.lanes_of.Goals as goal

pub returns-in-Rgba8 : goal.returns-in-Rgba8
returns-in-Rgba8 c = rw c.in-Rgba8.is (lanes_rgba c.args.w _ c.to_le_bytes.ensures)

pub returns-in-Argb8 : goal.returns-in-Argb8
returns-in-Argb8 c = rw c.in-Argb8.is (lanes_argb c.args.w _ c.to_le_bytes.ensures)

pub returns-in-Bgra8 : goal.returns-in-Bgra8
returns-in-Bgra8 c = rw c.in-Bgra8.is (lanes_bgra c.args.w _ c.to_le_bytes.ensures)
