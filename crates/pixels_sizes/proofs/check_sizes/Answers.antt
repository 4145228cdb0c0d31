-- Each return is the law of `sizes_number` for the first test that failed. Assumes nothing.
use Rattle.pixels.proofs.Fitting.{sizes_wrong, sizes_beyond, sizes_pass}
use mathlib.Core.Path.{sym, ◌∙◌}
use Rattle.pixels_sizes.proofs.check_sizes.Goals as goal

pub returns-then-wrong_sizes : goal.returns-then-wrong_sizes
returns-then-wrong_sizes c = sym (sizes_wrong _ _ _ (sym c.wrong_sizes.ensures ∙ c.if-wrong_sizes.true))

pub returns-then-crop_beyond : goal.returns-then-crop_beyond
returns-then-crop_beyond c =
    let right = sym c.wrong_sizes.ensures ∙ c.if-wrong_sizes.false in
    sym (sizes_beyond _ _ _ right (sym c.crop_beyond.ensures ∙ c.if-crop_beyond.true))

pub returns : goal.returns
returns c =
    let right = sym c.wrong_sizes.ensures ∙ c.if-wrong_sizes.false in
    sym (sizes_pass _ _ _ right (sym c.crop_beyond.ensures ∙ c.if-crop_beyond.false))
