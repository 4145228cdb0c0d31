-- `factor`: an or of bytes is a byte. Assumes nothing.
use Rattle.std.proofs.Common.{arith}
use Rattle.rows.proofs.Tones.{orred_byte, orred_small}
use Rattle.rows.proofs.Mask.factor.Goals as goal

pub returns : goal.returns
returns c =
    let a = c.args in
    let e = orred_byte a.alpha a.self.bits a.self.small in
    record {
      is = e;
      small = rw e (orred_small a.alpha a.self.bits (omega arith));
    }
