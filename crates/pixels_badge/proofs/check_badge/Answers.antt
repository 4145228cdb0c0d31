-- A refusal of the first two numbers is handed on; then the sizes and the alphas decide. Assumes nothing.
use Rattle.std.proofs.lemmas.Result.{err_from_is_err_and}
use mathlib.Core.Path.{sym, ◌∙◌}
use lib.ListN.{length}
use Rattle.pixels.proofs.Causes.{first_at, first_none, first_past, first_stays}
use Rattle.pixels_badge.specs.Badge.{both_causes, both_number, lay_causes, badge_number}
use Rattle.pixels_badge.proofs.Fitting.{long_whole, flag_is}
use Rattle.pixels_badge.proofs.check_badge.Goals as goal

pub returns-in_err-check_both : goal.returns-in_err-check_both
unfolding both_number badge_number
returns-in_err-check_both c =
    let p = err_from_is_err_and c.from_residual.result c.from_residual.ensures.1 in
    let a = c.args in
    let e = sym c.in_err-check_both.ensures in
    rw (p.1, p.2) (sym (first_stays c.in_err-check_both.field-0.0 (both_causes a.size (length a.pixels.now) a.badge_size a.m) (lay_causes a.size a.layout a.pixels.now a.badge_size) e))

pub returns-then-other_size : goal.returns-then-other_size
unfolding both_number badge_number
returns-then-other_size c =
    let a = c.args in
    let z = sym c.in_ok-check_both.ensures in
    let rest = lay_causes a.size a.layout a.pixels.now a.badge_size in
    sym (first_past (both_causes a.size (length a.pixels.now) a.badge_size a.m) rest z ∙ first_at rest 0 tt (sym c.other_size.ensures ∙ c.if-other_size.true))

pub some_clear-requires : goal.some_clear-requires
some_clear-requires c =
    let a = c.args in
    let z = sym c.in_ok-check_both.ensures in
    long_whole a.size (length a.pixels.now) a.badge_size a.m z

pub returns-then-some_clear : goal.returns-then-some_clear
unfolding both_number badge_number
returns-then-some_clear c =
    let a = c.args in
    let z = sym c.in_ok-check_both.ensures in
    let rest = lay_causes a.size a.layout a.pixels.now a.badge_size in
    let alike = sym c.other_size.ensures ∙ c.if-other_size.false in
    let clear = flag_is a.size (length a.pixels.now) a.badge_size a.m z a.layout a.pixels.now c.some_clear.ensures in
    sym (first_past (both_causes a.size (length a.pixels.now) a.badge_size a.m) rest z ∙ first_at rest 1 (alike, tt) (sym clear ∙ c.if-some_clear.true))

pub returns : goal.returns
unfolding both_number badge_number
returns c =
    let a = c.args in
    let z = sym c.in_ok-check_both.ensures in
    let rest = lay_causes a.size a.layout a.pixels.now a.badge_size in
    let alike = sym c.other_size.ensures ∙ c.if-other_size.false in
    let clear = flag_is a.size (length a.pixels.now) a.badge_size a.m z a.layout a.pixels.now c.some_clear.ensures in
    sym (first_past (both_causes a.size (length a.pixels.now) a.badge_size a.m) rest z ∙ first_none rest (alike, (sym clear ∙ c.if-some_clear.false, tt)))
