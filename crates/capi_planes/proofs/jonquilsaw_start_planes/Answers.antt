-- Too few words of any record are refused first; else the library's answer: a refusal keeps the words, three fresh records are stored. Assumes nothing.
use Rattle.capi_planes.proofs.Planes.{luma_short, cb_short, cr_short, planes_refused, planes_fresh}
use Rattle.capi_planes.proofs.jonquilsaw_start_planes.Goals as goal

pub returns-then-luma-lt-RECORD_WORDS : goal.returns-then-luma-lt-RECORD_WORDS
returns-then-luma-lt-RECORD_WORDS c =
    let g = c.args in
    let both = luma_short g.source_width g.source_height g.target_width g.target_height g.luma_work.now g.cb_work.now g.cr_work.now g.luma.now g.cb.now g.cr.now c.if-luma-lt-RECORD_WORDS.true in
    record { number = both.0; luma_work = both.1.0; cb_work = both.1.1.0; cr_work = both.1.1.1.0; luma = both.1.1.1.1.0; cb = both.1.1.1.1.1.0; cr = both.1.1.1.1.1.1 }

pub returns-then-cb-lt-RECORD_WORDS : goal.returns-then-cb-lt-RECORD_WORDS
returns-then-cb-lt-RECORD_WORDS c =
    let g = c.args in
    let both = cb_short g.source_width g.source_height g.target_width g.target_height g.luma_work.now g.cb_work.now g.cr_work.now g.luma.now g.cb.now g.cr.now c.if-luma-lt-RECORD_WORDS.false c.if-cb-lt-RECORD_WORDS.true in
    record { number = both.0; luma_work = both.1.0; cb_work = both.1.1.0; cr_work = both.1.1.1.0; luma = both.1.1.1.1.0; cb = both.1.1.1.1.1.0; cr = both.1.1.1.1.1.1 }

pub returns-then-cr-lt-RECORD_WORDS : goal.returns-then-cr-lt-RECORD_WORDS
returns-then-cr-lt-RECORD_WORDS c =
    let g = c.args in
    let both = cr_short g.source_width g.source_height g.target_width g.target_height g.luma_work.now g.cb_work.now g.cr_work.now g.luma.now g.cb.now g.cr.now c.if-luma-lt-RECORD_WORDS.false c.if-cb-lt-RECORD_WORDS.false c.if-cr-lt-RECORD_WORDS.true in
    record { number = both.0; luma_work = both.1.0; cb_work = both.1.1.0; cr_work = both.1.1.1.0; luma = both.1.1.1.1.0; cb = both.1.1.1.1.1.0; cr = both.1.1.1.1.1.1 }

pub returns-in-Err : goal.returns-in-Err
returns-in-Err c =
    let g = c.args in
    let both = planes_refused g.source_width g.source_height g.target_width g.target_height g.luma_work.now g.cb_work.now g.cr_work.now g.luma.now g.cb.now g.cr.now
    c.if-luma-lt-RECORD_WORDS.false c.if-cb-lt-RECORD_WORDS.false c.if-cr-lt-RECORD_WORDS.false c.start_planes-answer.result c.start_planes-answer.ensures.number _ _ _ c.start_planes-answer.ensures.luma c.start_planes-answer.ensures.cb c.start_planes-answer.ensures.cr
    c.in-Err.why c.number.result c.in-Err.is c.number.ensures in
    record { number = both.0; luma_work = both.1.0; cb_work = both.1.1.0; cr_work = both.1.1.1.0; luma = both.1.1.1.1.0; cb = both.1.1.1.1.1.0; cr = both.1.1.1.1.1.1 }

pub returns-in-Ok : goal.returns-in-Ok
returns-in-Ok c =
    let g = c.args in
    let cb = c.store_job-in-Ok.ensures in
    let both = planes_fresh g.source_width g.source_height g.target_width g.target_height g.luma_work.now g.cb_work.now g.cr_work.now g.luma.now g.cb.now g.cr.now
    c.if-luma-lt-RECORD_WORDS.false c.if-cb-lt-RECORD_WORDS.false c.if-cr-lt-RECORD_WORDS.false c.start_planes-answer.result c.start_planes-answer.ensures.number _ _ _ c.start_planes-answer.ensures.luma c.start_planes-answer.ensures.cb c.start_planes-answer.ensures.cr
    c.in-Ok.planes _ _ _ c.in-Ok.is c.start_planes-answer.ensures.jobs c.store_job.ensures cb c.store_job-in-Ok-2.ensures in
    record { number = both.0; luma_work = both.1.0; cb_work = both.1.1.0; cr_work = both.1.1.1.0; luma = both.1.1.1.1.0; cb = both.1.1.1.1.1.0; cr = both.1.1.1.1.1.1 }
