-- `finish_row`: a picture's row is restored, a plane's stays. Assumes nothing.
use mathlib.Core.Path.{refl}
use Rattle.rows_out.proofs.finish_row.Goals as goal

pub returns-in-Pixels : goal.returns-in-Pixels
returns-in-Pixels c = let e = c.in-Pixels.is in
    rw e (record {
      number = c.restore_row.ensures.number;
      flag = c.restore_row.ensures.flag;
      out = c.restore_row.ensures.out;
    })

pub returns-in-Plain : goal.returns-in-Plain
returns-in-Plain c = let e = c.in-Plain.is in
    rw e (record {
      number = refl;
      flag = refl;
      out = refl;
    })
