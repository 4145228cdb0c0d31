-- A refusal of the header is handed on; else the length decides. Assumes nothing.
use Rattle.std.proofs.lemmas.Result.{err_from_is_err_and}
use Rattle.pixels.specs.declared.Refusal.TheVariants.{PixelBufferMismatch, PamMalformed}
use Rattle.pam_header.proofs.Verdicts.{malformed_told}
use Rattle.pam_reading.proofs.Reading.{no_size_lem, header_refused, other_length_lem, the_size}
use Rattle.pam_reading.proofs.pam_size.Goals as goal

pub returns-in_err-pam_header : goal.returns-in_err-pam_header
returns-in_err-pam_header c =
    let p = err_from_is_err_and c.from_residual.result c.from_residual.ensures.1 in
    let both = no_size_lem _ c.in_err-pam_header.field-0.0 (header_refused _ _ c.in_err-pam_header.ensures.number) in
    rw (p.1, p.2) (record { number = both.0; size = both.1 })

pub returns-in_err-picture : goal.returns-in_err-picture
returns-in_err-picture c =
    let p = err_from_is_err_and c.from_residual-in_err-picture.result c.from_residual-in_err-picture.ensures.1 in
    let e = c.in_err-picture.ensures in
    let r = rw e.ok_part at c.in_ok-pam_header.ensures in
    let both = no_size_lem _ PamMalformed (header_refused _ PamMalformed r.number) in
    rw (p.1, p.2, malformed_told _ _ e.ok_part e.value) (record { number = both.0; size = both.1 })

pub returns-then-wrong_rest : goal.returns-then-wrong_rest
returns-then-wrong_rest c =
    let r = rw c.in_ok-picture.ensures.ok_part at c.in_ok-pam_header.ensures in
    let both = no_size_lem _ PixelBufferMismatch (other_length_lem _ _ _ r.number r.size r.start _ c.wrong_rest.ensures c.if-wrong_rest.true) in
    record { number = both.0; size = both.1 }

pub returns : goal.returns
returns c =
    let r = rw c.in_ok-picture.ensures.ok_part at c.in_ok-pam_header.ensures in
    let both = the_size _ _ _ r.number r.size r.start _ c.wrong_rest.ensures c.if-wrong_rest.false in
    record { number = both.0; size = both.1 }
