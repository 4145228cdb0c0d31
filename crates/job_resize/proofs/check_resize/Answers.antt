-- A refusal of the sizes is handed on with its number; else the three lengths decide, in their order. Assumes nothing.
use Rattle.std.proofs.lemmas.Result.{err_from_is_err_and}
use mathlib.Core.Path.{sym, ◌∙◌}
use native.Mathlib.Omega.{arith}
use borrow.Author.Tests.{lt-ltb, le-ltb}
use Rattle.pixels.proofs.Causes.{first_at, first_none, first_past, first_stays}
use Rattle.pixels.specs.Sizes.{pixel_lanes, work_values, sizes_causes, sizes_number}
use Rattle.job_resize.specs.Resize.{length_causes, resize_number}
use Rattle.job_claim.specs.Rows.{full_crop}
use Rattle.job_resize.proofs.check_resize.Goals as goal

pub returns-in_err-check_sizes : goal.returns-in_err-check_sizes
unfolding resize_number sizes_number
returns-in_err-check_sizes c =
    let p = err_from_is_err_and c.from_residual.result c.from_residual.ensures.1 in
    let a = c.args in
    let e = sym (rw c.new-crop.ensures at c.in_err-check_sizes.ensures) in
    rw (p.1, p.2) (sym (first_stays c.in_err-check_sizes.field-0.0 (sizes_causes a.source (full_crop a.source) a.target) (length_causes a.source a.target a.pixels a.out a.work) e))

pub returns-then-wrong_length : goal.returns-then-wrong_length
unfolding resize_number sizes_number
returns-then-wrong_length c =
    let a = c.args in
    let z = sym (rw c.new-crop.ensures at c.in_ok-check_sizes.ensures) in
    let l = length_causes a.source a.target a.pixels a.out a.work in
    sym (first_past (sizes_causes a.source (full_crop a.source) a.target) l z ∙ first_at l 0 tt (sym c.wrong_length.ensures ∙ c.if-wrong_length.true))

pub returns-then-wrong_length-2 : goal.returns-then-wrong_length-2
unfolding resize_number sizes_number
returns-then-wrong_length-2 c =
    let a = c.args in
    let z = sym (rw c.new-crop.ensures at c.in_ok-check_sizes.ensures) in
    let l = length_causes a.source a.target a.pixels a.out a.work in
    let picture = sym c.wrong_length.ensures ∙ c.if-wrong_length.false in
    sym (first_past (sizes_causes a.source (full_crop a.source) a.target) l z ∙ first_at l 1 (picture, tt) (sym c.wrong_length-2.ensures ∙ c.if-wrong_length-2.true))

pub returns-then-work-target : goal.returns-then-work-target
unfolding resize_number sizes_number
returns-then-work-target c =
    let a = c.args in
    let z = sym (rw c.new-crop.ensures at c.in_ok-check_sizes.ensures) in
    let l = length_causes a.source a.target a.pixels a.out a.work in
    let picture = sym c.wrong_length.ensures ∙ c.if-wrong_length.false in
    let output = sym c.wrong_length-2.ensures ∙ c.if-wrong_length-2.false in
    let short = lt-ltb a.work (work_values pixel_lanes a.target.width) (omega (arith, c.if-work-target.true)) in
    sym (first_past (sizes_causes a.source (full_crop a.source) a.target) l z ∙ first_at l 2 (picture, (output, tt)) short)

pub returns : goal.returns
unfolding resize_number sizes_number
returns c =
    let a = c.args in
    let z = sym (rw c.new-crop.ensures at c.in_ok-check_sizes.ensures) in
    let l = length_causes a.source a.target a.pixels a.out a.work in
    let picture = sym c.wrong_length.ensures ∙ c.if-wrong_length.false in
    let output = sym c.wrong_length-2.ensures ∙ c.if-wrong_length-2.false in
    let room = le-ltb a.work (work_values pixel_lanes a.target.width) (omega (arith, c.if-work-target.false)) in
    sym (first_past (sizes_causes a.source (full_crop a.source) a.target) l z ∙ first_none l (picture, (output, (room, tt))))
