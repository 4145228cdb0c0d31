-- The size decides. Assumes nothing.
use Rattle.pam_heading.proofs.Lengths.{length_refused, length_told}
use mathlib.Core.Path.{sym, ◌∙◌}
use Rattle.pam_heading.proofs.pam_header_length.Goals as goal

pub returns-then-bad_size : goal.returns-then-bad_size
returns-then-bad_size c =
    let both = length_refused _ _ (sym c.bad_size.ensures ∙ c.if-bad_size.true) in
    record { number = both.0; bytes = both.1 }

pub returns : goal.returns
returns c =
    let both = length_told _ _ _ (sym c.bad_size.ensures ∙ c.if-bad_size.false) c.heading_length.ensures in
    record { number = both.0; bytes = both.1 }
