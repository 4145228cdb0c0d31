-- A refusal of the sizes is handed on with its number; else the two lengths decide, in their order. Assumes nothing.
use Rattle.std.proofs.lemmas.Result.{err_from_is_err_and}
use mathlib.Core.Path.{sym, ◌∙◌}
use mathlib.Core.List.{[], List, ◌∷◌}
use Rattle.pixels.specs.declared.Refusal.TheVariants.{PixelBufferMismatch, OutputLength}
use Rattle.pixels.specs.Refusals.{Cause, other_length}
use Rattle.pixels.specs.Sizes.{pixel_lanes, picture_bytes, sizes_causes, sizes_number}
use Rattle.pixels.proofs.Causes.{first_at, first_none, first_past, first_stays}
use Rattle.pixels.specs.declared.Dimensions.{Dimensions}
use Rattle.pixels.specs.declared.Rect.{Rect}
use Rattle.pixels_crop.specs.Crop.{crop_number}
use Prim.Native.Nat.{ℕ}
use Rattle.pixels_crop.proofs.check_crop.Goals as goal

-- the causes after those of the sizes
abbrev lengths : Dimensions → Rect → ℕ → ℕ → List Cause
lengths source crop n m =
    other_length n (picture_bytes pixel_lanes source.width source.height) PixelBufferMismatch
    ∷ other_length m (picture_bytes pixel_lanes crop.width crop.height) OutputLength
    ∷ []

pub returns-in_err-check_sizes : goal.returns-in_err-check_sizes
unfolding crop_number sizes_number
returns-in_err-check_sizes c =
    let p = err_from_is_err_and c.from_residual.result c.from_residual.ensures.1 in
    let a = c.args in
    let e = sym c.in_err-check_sizes.ensures in
    rw (p.1, p.2) (sym (first_stays c.in_err-check_sizes.field-0.0 (sizes_causes a.source a.rect a.source) (lengths a.source a.rect a.n a.m) e))

pub returns-then-wrong_length : goal.returns-then-wrong_length
unfolding crop_number sizes_number
returns-then-wrong_length c =
    let a = c.args in
    let z = sym c.in_ok-check_sizes.ensures in
    let l = lengths a.source a.rect a.n a.m in
    sym (first_past (sizes_causes a.source a.rect a.source) l z ∙ first_at l 0 tt (sym c.wrong_length.ensures ∙ c.if-wrong_length.true))

pub returns-then-wrong_length-2 : goal.returns-then-wrong_length-2
unfolding crop_number sizes_number
returns-then-wrong_length-2 c =
    let a = c.args in
    let z = sym c.in_ok-check_sizes.ensures in
    let l = lengths a.source a.rect a.n a.m in
    let IsFirst-passes = sym c.wrong_length.ensures ∙ c.if-wrong_length.false in
    sym (first_past (sizes_causes a.source a.rect a.source) l z ∙ first_at l 1 (IsFirst-passes, tt) (sym c.wrong_length-2.ensures ∙ c.if-wrong_length-2.true))

pub returns : goal.returns
unfolding crop_number sizes_number
returns c =
    let a = c.args in
    let z = sym c.in_ok-check_sizes.ensures in
    let l = lengths a.source a.rect a.n a.m in
    let IsFirst-passes = sym c.wrong_length.ensures ∙ c.if-wrong_length.false in
    sym (first_past (sizes_causes a.source a.rect a.source) l z ∙ first_none l (IsFirst-passes, (sym c.wrong_length-2.ensures ∙ c.if-wrong_length-2.false, tt)))
