-- `toned_byte`: what is read is byte_at by definition, and a toned byte fits 16 bits. Assumes nothing.
use Rattle.rows.proofs.Tones.{toned_byte}
use Rattle.rows.specs.Inner.Import.{byte_at}
use native.Mathlib.Omega.{arith}
use lib.ListN.{get_or}
use Prim.Native.Nat.{◌+◌, ◌*◌}
use Rattle.rows_gathering.proofs.toned_byte.Goals as goal

pub overflow_cast-result : goal.overflow_cast-result
overflow_cast-result c =
    let a = c.args in
    let i = 4 * a.x + a.k in
    let small = toned_byte (get_or a.row.now i 0) a.alpha a.own (omega (arith, c.type_inv.row i)) (omega arith) in
    omega (arith, c.tone.ensures, small)

pub returns : goal.returns
unfolding byte_at
returns c = c.tone.ensures
