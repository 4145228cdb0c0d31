-- `byte`: what is read is byte_at by definition. Assumes nothing.
use mathlib.Core.Path.{refl}
use Rattle.rows.specs.Inner.Import.{byte_at}
use Rattle.rows_growing.proofs.byte.Goals as goal

pub returns : goal.returns
unfolding byte_at
returns c = refl
