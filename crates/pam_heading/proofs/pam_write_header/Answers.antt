-- One cause after the other; then the header is put. Assumes nothing.
use Rattle.pam_heading.proofs.Lengths.{heading_wrong, heading_other, heading_written}
use mathlib.Core.Path.{sym, ◌∙◌}
use Rattle.pam_heading.proofs.pam_write_header.Goals as goal

pub returns-then-bad_size : goal.returns-then-bad_size
returns-then-bad_size c =
    let both = heading_wrong _ _ (sym c.bad_size.ensures ∙ c.if-bad_size.true) in
    record { number = both.0; out = both.1 }

pub returns-then-out-heading_length : goal.returns-then-out-heading_length
returns-then-out-heading_length c =
    let both = heading_other _ _ (sym c.bad_size.ensures ∙ c.if-bad_size.false) _ c.heading_length.ensures c.if-out-heading_length.true in
    record { number = both.0; out = both.1 }

pub returns : goal.returns
returns c =
    let both = heading_written _ _ (sym c.bad_size.ensures ∙ c.if-bad_size.false) _ c.heading_length.ensures _ c.if-out-heading_length.false c.put_heading.ensures in
    record { number = both.0; out = both.1 }
