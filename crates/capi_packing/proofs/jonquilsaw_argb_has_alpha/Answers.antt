-- The boundary's test of the lent word, then the flag stored in it. Assumes nothing.
use Rattle.capi_packing.proofs.Packings.{flag_misused, flag_told}
use Rattle.capi_packing.proofs.jonquilsaw_argb_has_alpha.Goals as goal

pub returns-then-flag-lt1 : goal.returns-then-flag-lt1
returns-then-flag-lt1 c =
    let g = c.args in
    let both = flag_misused g.argb.now g.flag.now c.if-flag-lt1.true in
    record { number = both.0; flag = both.1 }

pub returns : goal.returns
returns c =
    let g = c.args in
    let both = flag_told g.argb.now g.flag.now c.if-flag-lt1.false c.argb_has_alpha-on.ensures c.flag_word.ensures c.store.ensures in
    record { number = both.0; flag = both.1 }
