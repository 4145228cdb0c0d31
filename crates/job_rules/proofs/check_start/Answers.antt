-- Each return is the first cause whose test failed. Assumes nothing.
use mathlib.Core.Path.{sym, ◌∙◌}
use Rattle.pixels.proofs.Causes.{first_at, first_none}
use Rattle.job_rules.specs.Rules.{start_causes, start_number}
use Rattle.job_rules.proofs.check_start.Goals as goal

pub returns-then-wrong_sizes : goal.returns-then-wrong_sizes
unfolding start_number
returns-then-wrong_sizes c = let a = c.args in sym (first_at (start_causes a.p a.work) 0 tt (sym c.wrong_sizes.ensures ∙ c.if-wrong_sizes.true))

pub returns-then-bad_lanes : goal.returns-then-bad_lanes
unfolding start_number
returns-then-bad_lanes c =
    let a = c.args in
    let sizes = sym c.wrong_sizes.ensures ∙ c.if-wrong_sizes.false in
    sym (first_at (start_causes a.p a.work) 1 (sizes, tt) (sym c.bad_lanes.ensures ∙ c.if-bad_lanes.true))

pub returns-then-crop_beyond : goal.returns-then-crop_beyond
unfolding start_number
returns-then-crop_beyond c =
    let a = c.args in
    let sizes = sym c.wrong_sizes.ensures ∙ c.if-wrong_sizes.false in
    let lanes = sym c.bad_lanes.ensures ∙ c.if-bad_lanes.false in
    sym (first_at (start_causes a.p a.work) 2 (sizes, (lanes, tt)) (sym c.crop_beyond.ensures ∙ c.if-crop_beyond.true))

pub returns-then-short_work : goal.returns-then-short_work
unfolding start_number
returns-then-short_work c =
    let a = c.args in
    let sizes = sym c.wrong_sizes.ensures ∙ c.if-wrong_sizes.false in
    let lanes = sym c.bad_lanes.ensures ∙ c.if-bad_lanes.false in
    let crop = sym c.crop_beyond.ensures ∙ c.if-crop_beyond.false in
    sym (first_at (start_causes a.p a.work) 3 (sizes, (lanes, (crop, tt))) (sym c.short_work.ensures ∙ c.if-short_work.true))

pub returns : goal.returns
unfolding start_number
returns c =
    let a = c.args in
    let sizes = sym c.wrong_sizes.ensures ∙ c.if-wrong_sizes.false in
    let lanes = sym c.bad_lanes.ensures ∙ c.if-bad_lanes.false in
    let crop = sym c.crop_beyond.ensures ∙ c.if-crop_beyond.false in
    sym (first_none (start_causes a.p a.work) (sizes, (lanes, (crop, (sym c.short_work.ensures ∙ c.if-short_work.false, tt)))))
