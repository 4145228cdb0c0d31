-- `plain_byte`: what is read is byte_at by definition. Assumes nothing.
use Rattle.rows.specs.Inner.Import.{byte_at}
use mathlib.Core.Path.{refl}
use Rattle.rows_gathering.proofs.plain_byte.Goals as goal

pub returns : goal.returns
unfolding byte_at
returns c = refl
