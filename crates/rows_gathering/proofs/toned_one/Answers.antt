-- `toned_one`: the pixel's four bytes, and nothing beside them. Assumes nothing.
use mathlib.Core.Path.{refl}
use native.Mathlib.Omega.{arith}
use Rattle.rows.specs.Inner.Import.{byte_at}
use Rattle.rows_gathering.proofs.Pairing.{toned_own, own_none, toned_nothing}
use Rattle.rows_gathering.proofs.toned_one.Goals as goal

pub overflow_cast-q : goal.overflow_cast-q
overflow_cast-q c = omega (arith, own_none c.args.alpha.place c.args.alpha.ends c.args.alpha.own_is)

pub returns : goal.returns
unfolding byte_at
returns c =
    let a = c.args in
    let o = a.alpha in
    let e = own_none o.place o.ends o.own_is in
    record {
      even = toned_own a.row.now o.place a.x o.own _ o.own_is
          (record { l0 = c.toned_byte.ensures; l1 = c.toned_byte-2.ensures; l2 = c.toned_byte-3.ensures; l3 = c.toned_byte-4.ensures });
      odd = record {
        l0 = toned_nothing _ _ _ _ e refl c.toned_byte-5.ensures;
        l1 = toned_nothing _ _ _ _ e refl c.toned_byte-6.ensures;
        l2 = toned_nothing _ _ _ _ e refl c.toned_byte-7.ensures;
        l3 = toned_nothing _ _ _ _ e refl c.toned_byte-8.ensures;
      };
    }
