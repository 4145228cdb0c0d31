-- Both edges in 64 bits, so that no sum wraps; each return is the law of `crop_outside` for the edge that failed. Assumes nothing.
use Rattle.pixels.proofs.Fitting.{beyond_right, beyond_bottom}
use mathlib.Core.Path.{sym}
use Rattle.pixels_sizes.proofs.crop_beyond.Goals as goal

pub returns-then-source-crop : goal.returns-then-source-crop
returns-then-source-crop c = sym (beyond_right _ _ c.if-source-crop.true)

pub returns : goal.returns
returns c = let a = c.args in beyond_bottom a.crop a.source c.if-source-crop.false
