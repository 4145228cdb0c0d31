-- The boundary's test of the lent word, then the library's answer: a refusal keeps the word, a length is stored. Assumes nothing.
use native.Mathlib.Omega.{arith}
use Rattle.capi_pam_writing.specs.PamWriting.{bytes_after_pam_length}
use Rattle.capi_pam_writing.proofs.PamWritings.{length_misused, length_refused, length_stored, file_most}
use Rattle.capi_pam_writing.proofs.jonquilsaw_pam_length.Goals as goal

pub returns-then-bytes-lt1 : goal.returns-then-bytes-lt1
unfolding bytes_after_pam_length
returns-then-bytes-lt1 c =
    let g = c.args in
    let both = length_misused g.width g.height g.bytes.now _ c.if-bytes-lt1.true in
    record { number = both.0; bytes = both.1 }

pub overflow_cast-whole : goal.overflow_cast-whole
overflow_cast-whole c =
    let told = c.in-Ok.ensures in
    omega (arith, file_most _ c.in-Ok.n told.number told.bytes)

pub returns-in-Err : goal.returns-in-Err
unfolding bytes_after_pam_length
returns-in-Err c =
    let g = c.args in
    let told = c.in-Err.ensures in
    let both = length_refused g.width g.height g.bytes.now _ c.if-bytes-lt1.false c.in-Err.why told.number c.number.ensures in
    record { number = both.0; bytes = both.1 }

pub returns-in-Ok : goal.returns-in-Ok
unfolding bytes_after_pam_length
returns-in-Ok c =
    let g = c.args in
    let told = c.in-Ok.ensures in
    let both = length_stored g.width g.height g.bytes.now _ c.if-bytes-lt1.false c.in-Ok.n told.number told.bytes c.store.ensures in
    record { number = both.0; bytes = both.1 }
