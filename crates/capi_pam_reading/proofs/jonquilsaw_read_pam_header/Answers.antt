-- The boundary's test, then the library's answer: a refusal keeps the words, what the header says is stored. Assumes nothing.
use Rattle.pixels.specs.declared.Refusal.TheVariants.{PamMalformed}
use Rattle.capi_pam_reading.proofs.PamReadings.{header_misused, header_refused, header_read}
use Rattle.capi_pam_reading.proofs.jonquilsaw_read_pam_header.Goals as goal

pub returns-then-answer-lt4 : goal.returns-then-answer-lt4
returns-then-answer-lt4 c =
    let g = c.args in
    let both = header_misused g.input.now g.answer.now c.if-answer-lt4.true in
    record { number = both.0; answer = both.1 }

pub returns-in-Err : goal.returns-in-Err
returns-in-Err c =
    let g = c.args in
    let told = c.in-Err.ensures in
    let both = header_refused g.input.now g.answer.now c.if-answer-lt4.false c.in-Err.why told.number c.number.ensures in
    record { number = both.0; answer = both.1 }

pub returns-in-Ok-None : goal.returns-in-Ok-None
returns-in-Ok-None c =
    let g = c.args in
    let told = rw c.in-Ok-None.field-0-is at c.in-Ok-None.ensures in
    let both = header_refused g.input.now g.answer.now c.if-answer-lt4.false PamMalformed told.number c.number-in-Ok-None.ensures in
    record { number = both.0; answer = both.1 }

pub returns-in-Ok-Some : goal.returns-in-Ok-Some
returns-in-Ok-Some c =
    let g = c.args in
    let told = rw c.in-Ok-Some.field-0-is at c.in-Ok-Some.ensures in
    let both = header_read g.input.now g.answer.now c.if-answer-lt4.false c.in-Ok-Some.picture.size c.in-Ok-Some.picture.start told.number told.size told.start c.store.ensures in
    record { number = both.0; answer = both.1 }
