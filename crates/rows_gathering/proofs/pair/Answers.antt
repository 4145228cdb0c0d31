-- `pair`: each byte as it is read, by its own pixel's alpha, which is byte_at by definition. Assumes nothing.
use Prim.Native.Nat.{◌+◌}
use Rattle.rows_gathering.proofs.Pairing.{pair_is, read_own}
use Rattle.rows_gathering.specs.Gathered.{read_at}
use Rattle.rows.specs.Inner.Import.{byte_at}
use Rattle.rows_gathering.proofs.pair.Goals as goal

pub returns : goal.returns
unfolding byte_at
returns c =
    let a = c.args in
    let s = a.row.now in
    let o = a.alpha in
    pair_is (read_at a.plain s o.place) a.x _
    (read_own a.plain s o.place a.place a.x o.own _ o.own_is c.requires.place_is (record { l0 = c.byte.ensures; l1 = c.byte-2.ensures; l2 = c.byte-3.ensures; l3 = c.byte-4.ensures }))
    (read_own a.plain s o.place a.place (a.x + 1) o.own _ o.own_is c.requires.place_is (record { l0 = c.byte-5.ensures; l1 = c.byte-6.ensures; l2 = c.byte-7.ensures; l3 = c.byte-8.ensures }))
