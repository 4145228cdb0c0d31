-- The record's words, then the library's answer: a refusal keeps everything, a row taken stores the record. Assumes nothing.
use Rattle.capi_jobs.proofs.Jobs.{take_no_record, take_refused, take_wrote}
use Rattle.capi_jobs.proofs.jonquilsaw_take.Goals as goal

pub returns-in_default : goal.returns-in_default
returns-in_default c =
    let g = c.args in
    let both = take_no_record g.«record».now g.out.now g.work.now c.number.result c.read_job.ensures c.in_default.is c.number.ensures in
    record { number = both.0; «record» = both.1.0; out = both.1.1.0; work = both.1.1.1 }

pub returns-in-Err : goal.returns-in-Err
returns-in-Err c =
    let g = c.args in
    let both = take_refused g.«record».now g.out.now g.work.now _ _ c.in-Some.job c.read_job.ensures c.in-Some.is
    c.take-taken.result.said c.take-taken.ensures.number c.take-taken.ensures.out c.take-taken.ensures.work c.in-Err.refusal c.number-in-Err.result c.in-Err.is c.number-in-Err.ensures in
    record { number = both.0; «record» = both.1.0; out = both.1.1.0; work = both.1.1.1 }

pub returns-in-Ok : goal.returns-in-Ok
returns-in-Ok c =
    let g = c.args in
    let both = take_wrote g.«record».now g.out.now g.work.now _ _ c.in-Some.job c.read_job.ensures c.in-Some.is
    c.take-taken.result.said c.take-taken.ensures.number c.take-taken.ensures.out c.take-taken.ensures.work _ _ c.in-Ok.is c.take-taken.ensures.job c.store_job.ensures in
    record { number = both.0; «record» = both.1.0; out = both.1.1.0; work = both.1.1.1 }
