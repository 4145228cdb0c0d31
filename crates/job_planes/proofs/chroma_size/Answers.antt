-- `chroma_size`: half of each side. Assumes nothing.
use mathlib.Core.Path.{ap₂}
use Rattle.pixels.specs.Sizes.{size_of}
use Rattle.job_planes.proofs.chroma_size.Goals as goal

pub returns : goal.returns
returns c = ap₂ size_of c.half.ensures c.half-2.ensures
