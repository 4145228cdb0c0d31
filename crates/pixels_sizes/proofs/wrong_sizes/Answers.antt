-- Each return is the law of `wrong_sizes` for the first size that failed. Assumes nothing.
use Rattle.pixels.proofs.Fitting.{empty_width, wrong_source, wrong_target, wrong_crop}
use Rattle.pixels.specs.Sizes.{empty_crop}
use borrow.Author.Tests.{ne_eqb}
use mathlib.Core.Path.{sym, ◌∙◌}
use Rattle.pixels_sizes.proofs.wrong_sizes.Goals as goal

pub returns-then-bad_size : goal.returns-then-bad_size
returns-then-bad_size c = sym (wrong_source _ _ _ (sym c.bad_size.ensures ∙ c.if-bad_size.true))

pub returns-then-bad_size-2 : goal.returns-then-bad_size-2
returns-then-bad_size-2 c = sym (wrong_target _ _ _ (sym c.bad_size-2.ensures ∙ c.if-bad_size-2.true))

pub returns-then-crop-eq0 : goal.returns-then-crop-eq0
returns-then-crop-eq0 c = sym (wrong_crop _ _ _ (empty_width _ c.if-crop-eq0.true))

pub returns : goal.returns
unfolding empty_crop
returns c = simp (sym c.bad_size.ensures ∙ c.if-bad_size.false, sym c.bad_size-2.ensures ∙ c.if-bad_size-2.false, ne_eqb _ _ c.if-crop-eq0.false)
