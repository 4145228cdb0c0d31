-- The source is tested first, so no product passes 2^61; then both derived sides are tested. Assumes nothing.
use Rattle.pixels.proofs.Fitting.{side_of, size_of_lem, scaled_source, scaled_wide, scaled_high, scaled_good, derived_most}
use Rattle.pixels.proofs.Numbers.{sized_refused}
use Rattle.pixels.specs.declared.Refusal.TheVariants.{InvalidDimensions}
use native.Mathlib.Omega.{arith}
use mathlib.Core.Path.{sym, ◌∙◌}
use Rattle.pixels.proofs.Dimensions.scaled.Goals as goal

pub returns-then-bad_size : goal.returns-then-bad_size
returns-then-bad_size c =
    let both = sized_refused InvalidDimensions _ _ (scaled_source _ _ _ (sym c.bad_size.ensures ∙ c.if-bad_size.true)) in
    record { number = both.0; size = both.1 }

pub derived-w-requires : goal.derived-w-requires
derived-w-requires c = let s = size_of_lem _ (sym c.bad_size.ensures ∙ c.if-bad_size.false) in omega arith

pub derived-h-requires : goal.derived-h-requires
derived-h-requires c =
    let a = c.args in
    let s = size_of_lem _ (sym c.bad_size.ensures ∙ c.if-bad_size.false) in
    let m = derived_most a.self.width a.self.height a.width a.height (omega arith) (omega arith) (omega arith) (omega arith) in
    omega (arith, c.derived-w.ensures)

pub returns-then-bad_side : goal.returns-then-bad_side
returns-then-bad_side c =
    let source = sym c.bad_size.ensures ∙ c.if-bad_size.false in
    let both = sized_refused InvalidDimensions _ _ (scaled_wide _ _ _ source _ c.derived-w.ensures (sym c.bad_side.ensures ∙ c.if-bad_side.true)) in
    record { number = both.0; size = both.1 }

pub returns-then-bad_side-2 : goal.returns-then-bad_side-2
returns-then-bad_side-2 c =
    let source = sym c.bad_size.ensures ∙ c.if-bad_size.false in
    let both = sized_refused InvalidDimensions _ _
    (scaled_high _ _ _ source _ c.derived-w.ensures _ c.derived-h.ensures (sym c.bad_side-2.ensures ∙ c.if-bad_side-2.true)) in
    record { number = both.0; size = both.1 }

pub overflow_cast-result : goal.overflow_cast-result
overflow_cast-result c = omega (arith, side_of c.derived-w.result (sym c.bad_side.ensures ∙ c.if-bad_side.false))

pub overflow_cast-result-2 : goal.overflow_cast-result-2
overflow_cast-result-2 c = omega (arith, side_of c.derived-h.result (sym c.bad_side-2.ensures ∙ c.if-bad_side-2.false))

pub returns : goal.returns
returns c =
    let source = sym c.bad_size.ensures ∙ c.if-bad_size.false in
    let both = scaled_good _ _ _ source _ c.derived-w.ensures _ c.derived-h.ensures
    (sym c.bad_side.ensures ∙ c.if-bad_side.false) (sym c.bad_side-2.ensures ∙ c.if-bad_side-2.false) in
    record { number = both.0; size = both.1 }
