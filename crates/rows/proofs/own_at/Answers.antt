-- `own_at`: the table's row, and past it nothing. Assumes nothing.
use Rattle.std.proofs.Common.{◌<◌, arith}
use Rattle.rows.proofs.Tones.{own_table, own_beyond}
use Rattle.rows.proofs.own_at.Goals as goal

pub returns-then-place-gt3 : goal.returns-then-place-gt3
returns-then-place-gt3 c =
    let place = c.args.place in
    let far : 3 < place = omega arith in
    record {
      l0 = own_beyond place 0 far (omega arith);
      l1 = own_beyond place 1 far (omega arith);
      l2 = own_beyond place 2 far (omega arith);
      l3 = own_beyond place 3 far (omega arith);
    }

pub returns : goal.returns
returns c =
    let t = own_table c.args.place (omega arith) in
    record { l0 = t.l0; l1 = t.l1; l2 = t.l2; l3 = t.l3 }
