-- Two sizes compared, side by side. Assumes nothing.
use mathlib.Core.Path.{◌∙◌}
use Rattle.pixels_badge.proofs.Fitting.{sizes_differ}
use Rattle.pixels_badge.proofs.other_size.Goals as goal

pub returns : goal.returns
returns c = let a = c.args in c.ne.ensures ∙ sizes_differ a.a a.b
