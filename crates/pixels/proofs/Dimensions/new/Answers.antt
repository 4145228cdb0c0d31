-- A size: refused exactly if a side is bad, else as given. Assumes nothing.
use Rattle.pixels.proofs.Numbers.{sized_refused, sized_accepted}
use Rattle.pixels.specs.declared.Refusal.TheVariants.{InvalidDimensions}
use Rattle.pixels.proofs.Fitting.{size_bad, size_passes}
use mathlib.Core.Path.{sym, ◌∙◌}
use Rattle.pixels.proofs.Dimensions.new.Goals as goal

pub returns-then-bad_size : goal.returns-then-bad_size
returns-then-bad_size c =
    let both = sized_refused InvalidDimensions _ _ (size_bad _ (sym c.bad_size.ensures ∙ c.if-bad_size.true)) in
    record { number = both.0; size = both.1 }

pub returns : goal.returns
returns c =
    let both = sized_accepted _ _ (size_passes _ (sym c.bad_size.ensures ∙ c.if-bad_size.false)) in
    record { number = both.0; size = both.1 }
