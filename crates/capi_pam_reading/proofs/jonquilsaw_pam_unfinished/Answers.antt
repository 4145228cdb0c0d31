-- The boundary's test of the lent word, then the flag stored in it. Assumes nothing.
use Rattle.capi_pam_reading.proofs.PamReadings.{unfinished_misused, unfinished_told}
use Rattle.capi_pam_reading.proofs.jonquilsaw_pam_unfinished.Goals as goal

pub returns-then-flag-lt1 : goal.returns-then-flag-lt1
returns-then-flag-lt1 c =
    let g = c.args in
    let both = unfinished_misused g.input.now g.flag.now c.if-flag-lt1.true in
    record { number = both.0; flag = both.1 }

pub returns : goal.returns
returns c =
    let g = c.args in
    let both = unfinished_told g.input.now g.flag.now c.if-flag-lt1.false c.pam_header.ensures.unfinished c.unfinished_word.ensures c.store.ensures in
    record { number = both.0; flag = both.1 }
