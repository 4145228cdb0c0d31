-- The rule of the kind and the layout that the tests found. Assumes nothing.
use mathlib.Core.Path.{sym, ◌∙◌}
use Rattle.job_rules.proofs.KindRules.{of_picture, other_layout, other_lanes, of_plane, is_picture, is_plane, rgba_told}
use Rattle.job_rules.proofs.kind_fits.Goals as goal

pub returns-then-eq : goal.returns-then-eq
returns-then-eq c = of_picture _ _ _ _ (is_picture _ c.if-eq.ensures)

pub returns-then-ne : goal.returns-then-ne
returns-then-ne c = other_layout _ _ _ _ (is_plane _ c.if-eq.ensures) (rgba_told _ c.if-ne.ensures)

pub returns-then-bad_lanes : goal.returns-then-bad_lanes
returns-then-bad_lanes c = other_lanes _ _ _ _ (is_plane _ c.if-eq.ensures) (rgba_told _ c.if-ne.ensures) (sym c.bad_lanes.ensures ∙ c.if-bad_lanes.true)

pub returns : goal.returns
returns c = of_plane _ _ _ _ (is_plane _ c.if-eq.ensures) (rgba_told _ c.if-ne.ensures) (sym c.bad_lanes.ensures ∙ c.if-bad_lanes.false)
