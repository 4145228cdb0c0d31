-- A refusal of the header is handed on; else the length decides. Assumes nothing.
use mathlib.Core.Path.{◌∙◌}
use Rattle.pixels.specs.declared.Refusal.TheVariants.{PixelBufferMismatch, PamMalformed}
use Rattle.pam_reading.proofs.Reading.{no_pixels, header_refused, other_length_lem, the_pixels}
use Rattle.pam_reading.proofs.pam_pixels.Goals as goal

pub returns-in-Err : goal.returns-in-Err
returns-in-Err c = no_pixels _ c.in-Err.field-0 (header_refused _ _ c.in-Err.ensures.number)

pub returns-in-Ok-None : goal.returns-in-Ok-None
returns-in-Ok-None c =
    let r = rw c.in-Ok-None.field-0-is at c.in-Ok-None.ensures in
    no_pixels _ PamMalformed (header_refused _ PamMalformed r.number)

pub returns-in-Ok-Some : goal.returns-in-Ok-Some
returns-in-Ok-Some c =
    let r = rw c.in-Ok-Some.field-0-is at c.in-Ok-Some.ensures in
    no_pixels _ PixelBufferMismatch (other_length_lem _ _ _ r.number r.size r.start _ c.wrong_rest.ensures c.if-wrong_rest.true)

pub returns-in-Ok-Some-2 : goal.returns-in-Ok-Some-2
returns-in-Ok-Some-2 c =
    let r = rw c.in-Ok-Some.field-0-is at c.in-Ok-Some.ensures in
    c.tail_of.ensures ∙ the_pixels _ _ _ r.number r.size r.start _ c.wrong_rest.ensures c.if-wrong_rest.false
