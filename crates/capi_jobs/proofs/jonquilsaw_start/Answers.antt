-- The boundary's test, then the library's answer: a refusal keeps the words, a fresh record is stored. Assumes nothing.
use Rattle.capi_record.specs.Record.{words_plan}
use Rattle.capi_words.proofs.Boundary.{misuse_told, misuse_kept}
use Rattle.capi_jobs.specs.Jobs.{number_of_start, work_after_start, record_after_start}
use Rattle.capi_jobs.proofs.Jobs.{start_refused, start_fresh}
use Rattle.capi_jobs.proofs.jonquilsaw_start.Goals as goal

pub returns-then-misused : goal.returns-then-misused
unfolding number_of_start work_after_start record_after_start
returns-then-misused c =
    let g = c.args in
    let e = c.misused.ensures in
    let f = c.if-misused.true in
    record {
      number = misuse_told _ e f;
      work = misuse_kept _ e f _ g.work.now;
      «record» = misuse_kept _ e f _ g.«record».now;
    }

pub returns-in-Err : goal.returns-in-Err
unfolding number_of_start work_after_start record_after_start
returns-in-Err c =
    let g = c.args in
    let p = words_plan g.source_width g.source_height g.layout g.crop_x g.crop_y g.crop_width g.crop_height g.target_width g.target_height in
    let s = rw c.layout_of.ensures at c.start-answer.ensures in
    let e = c.misused.ensures in
    let f = c.if-misused.false in
    let both = start_refused p g.work.now g.«record».now _ c.start-answer.result e f s.number s.work c.in-Err.why c.number.result c.in-Err.is c.number.ensures in
    record { number = both.0; work = both.1.0; «record» = both.1.1 }

pub returns-in-Ok : goal.returns-in-Ok
unfolding number_of_start work_after_start record_after_start
returns-in-Ok c =
    let g = c.args in
    let p = words_plan g.source_width g.source_height g.layout g.crop_x g.crop_y g.crop_width g.crop_height g.target_width g.target_height in
    let s = rw c.layout_of.ensures at c.start-answer.ensures in
    let e = c.misused.ensures in
    let f = c.if-misused.false in
    let both = start_fresh p g.work.now g.«record».now _ c.start-answer.result e f s.number s.work c.in-Ok.job _ c.in-Ok.is s.job c.store_job.ensures in
    record { number = both.0; work = both.1.0; «record» = both.1.1 }
