-- The boundary's test, then the library's answer: a refusal keeps the words, a size is stored. Assumes nothing.
use Rattle.capi_pam_reading.proofs.PamReadings.{read_misused, read_refused, picture_read}
use Rattle.capi_pam_reading.proofs.jonquilsaw_read_pam.Goals as goal

pub returns-then-size-lt2 : goal.returns-then-size-lt2
returns-then-size-lt2 c =
    let g = c.args in
    let both = read_misused g.input.now g.size.now c.if-size-lt2.true in
    record { number = both.0; size = both.1 }

pub returns-in-Err : goal.returns-in-Err
returns-in-Err c =
    let g = c.args in
    let told = c.in-Err.ensures in
    let both = read_refused g.input.now g.size.now c.if-size-lt2.false c.in-Err.why told.number c.number.ensures in
    record { number = both.0; size = both.1 }

pub returns-in-Ok : goal.returns-in-Ok
returns-in-Ok c =
    let g = c.args in
    let told = c.in-Ok.ensures in
    let both = picture_read g.input.now g.size.now c.if-size-lt2.false c.in-Ok.d told.number told.size c.store.ensures in
    record { number = both.0; size = both.1 }
