-- A refusal is handed on with its number; else the job is started and driven to its end. Assumes nothing.
use mathlib.Core.Path.{sym, ◌∙◌}
use Rattle.std.proofs.lemmas.Result.{err_from_is_err_and}
use Rattle.pixels.proofs.Numbers.{ok_of}
use Rattle.job_resize.proofs.Answers.{resize_refused, started_is, job_asked, finishes}
use Rattle.job_resize.proofs.resize.Goals as goal

pub returns-in_err-check_resize : goal.returns-in_err-check_resize
returns-in_err-check_resize c =
    let p = err_from_is_err_and c.from_residual.result c.from_residual.ensures.1 in
    let a = c.args in
    let told = sym c.in_err-check_resize.ensures in
    let both = resize_refused a.source a.layout a.target a.pixels.now a.out.now a.work.now c.in_err-check_resize.field-0.0 told in
    rw (p.1, p.2) (record { number = both.0; flag = both.1.0; out = both.1.1.0; work = both.1.1.1 })

pub unwrap-job-requires : goal.unwrap-job-requires
unwrap-job-requires c =
    let z = sym c.in_ok-check_resize.ensures in
    let a = c.args in
    ok_of _ (c.start.ensures.number ∙ started_is a.source a.layout a.target a.pixels.now a.out.now a.work.now z _ c.new-crop.ensures)

pub drive-last-requires : goal.drive-last-requires
drive-last-requires c =
    let full = c.new-crop.ensures in
    let z = sym c.in_ok-check_resize.ensures in
    let a = c.args in
    job_asked a.source a.layout a.target a.pixels.now a.out.now a.work.now z _ full _ _ c.start.ensures.job c.unwrap-job.ensures _ c.start.ensures.work

pub returns : goal.returns
returns c =
    let full = c.new-crop.ensures in
    let z = sym c.in_ok-check_resize.ensures in
    let a = c.args in
    let both = finishes a.source a.layout a.target a.pixels.now a.out.now a.work.now z _ full _ _ c.start.ensures.job c.unwrap-job.ensures _ c.start.ensures.work _ _ _ c.drive-last.ensures in
    record { number = both.0; flag = both.1.0; out = both.1.1.0; work = both.1.1.1 }
