-- Each return is the first cause whose test failed. Assumes nothing.
use mathlib.Core.Path.{sym, ◌∙◌}
use Rattle.pixels.proofs.Causes.{first_at, first_none}
use Rattle.pixels_badge.specs.Badge.{both_causes, both_number}
use Rattle.pixels_badge.proofs.check_both.Goals as goal

pub returns-then-bad_size : goal.returns-then-bad_size
unfolding both_number
returns-then-bad_size c = let a = c.args in sym (first_at (both_causes a.size a.n a.badge_size a.m) 0 tt (sym c.bad_size.ensures ∙ c.if-bad_size.true))

pub returns-then-bad_size-2 : goal.returns-then-bad_size-2
unfolding both_number
returns-then-bad_size-2 c =
    let a = c.args in
    let one = sym c.bad_size.ensures ∙ c.if-bad_size.false in
    sym (first_at (both_causes a.size a.n a.badge_size a.m) 1 (one, tt) (sym c.bad_size-2.ensures ∙ c.if-bad_size-2.true))

pub returns-then-wrong_length : goal.returns-then-wrong_length
unfolding both_number
returns-then-wrong_length c =
    let a = c.args in
    let one = sym c.bad_size.ensures ∙ c.if-bad_size.false in
    let two = sym c.bad_size-2.ensures ∙ c.if-bad_size-2.false in
    sym (first_at (both_causes a.size a.n a.badge_size a.m) 2 (one, (two, tt)) (sym c.wrong_length.ensures ∙ c.if-wrong_length.true))

pub returns-then-wrong_length-2 : goal.returns-then-wrong_length-2
unfolding both_number
returns-then-wrong_length-2 c =
    let a = c.args in
    let one = sym c.bad_size.ensures ∙ c.if-bad_size.false in
    let two = sym c.bad_size-2.ensures ∙ c.if-bad_size-2.false in
    let three = sym c.wrong_length.ensures ∙ c.if-wrong_length.false in
    sym (first_at (both_causes a.size a.n a.badge_size a.m) 3 (one, (two, (three, tt))) (sym c.wrong_length-2.ensures ∙ c.if-wrong_length-2.true))

pub returns : goal.returns
unfolding both_number
returns c =
    let a = c.args in
    let one = sym c.bad_size.ensures ∙ c.if-bad_size.false in
    let two = sym c.bad_size-2.ensures ∙ c.if-bad_size-2.false in
    let three = sym c.wrong_length.ensures ∙ c.if-wrong_length.false in
    sym (first_none (both_causes a.size a.n a.badge_size a.m) (one, (two, (three, (sym c.wrong_length-2.ensures ∙ c.if-wrong_length-2.false, tt)))))
