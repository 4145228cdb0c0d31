-- Each return is the first cause whose test failed. Assumes nothing.
use mathlib.Core.Path.{sym, ◌∙◌}
use Rattle.pixels.proofs.Causes.{first_at, first_none}
use Rattle.pixels_alpha.specs.Alpha.{picture_causes, picture_number}
use Rattle.pixels_alpha.proofs.check_picture.Goals as goal

pub returns-then-bad_size : goal.returns-then-bad_size
unfolding picture_number
returns-then-bad_size c = let a = c.args in sym (first_at (picture_causes a.size a.n) 0 tt (sym c.bad_size.ensures ∙ c.if-bad_size.true))

pub returns-then-wrong_length : goal.returns-then-wrong_length
unfolding picture_number
returns-then-wrong_length c =
    let a = c.args in
    let good = sym c.bad_size.ensures ∙ c.if-bad_size.false in
    sym (first_at (picture_causes a.size a.n) 1 (good, tt) (sym c.wrong_length.ensures ∙ c.if-wrong_length.true))

pub returns : goal.returns
unfolding picture_number
returns c =
    let a = c.args in
    let good = sym c.bad_size.ensures ∙ c.if-bad_size.false in
    sym (first_none (picture_causes a.size a.n) (good, (sym c.wrong_length.ensures ∙ c.if-wrong_length.false, tt)))
