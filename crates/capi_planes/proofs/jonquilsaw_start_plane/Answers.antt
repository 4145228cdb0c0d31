-- Too few words are refused first; else the library's answer: a refusal keeps the words, a fresh record is stored. Assumes nothing.
use Rattle.capi_planes.proofs.Planes.{plane_short, plane_refused, plane_fresh}
use Rattle.capi_planes.proofs.jonquilsaw_start_plane.Goals as goal

pub returns-then-record-lt-RECORD_WORDS : goal.returns-then-record-lt-RECORD_WORDS
returns-then-record-lt-RECORD_WORDS c =
    let g = c.args in
    let both = plane_short g.source_width g.source_height g.lanes g.crop_x g.crop_y g.crop_width g.crop_height g.target_width g.target_height
    g.work.now g.«record».now c.if-record-lt-RECORD_WORDS.true in
    record { number = both.0; work = both.1.0; «record» = both.1.1 }

pub returns-in-Err : goal.returns-in-Err
returns-in-Err c =
    let g = c.args in
    let both = plane_refused g.source_width g.source_height g.lanes g.crop_x g.crop_y g.crop_width g.crop_height g.target_width g.target_height
    g.work.now g.«record».now c.if-record-lt-RECORD_WORDS.false c.start_plane-answer.result c.start_plane-answer.ensures.number _ c.start_plane-answer.ensures.work c.in-Err.why c.number.result c.in-Err.is c.number.ensures in
    record { number = both.0; work = both.1.0; «record» = both.1.1 }

pub returns-in-Ok : goal.returns-in-Ok
returns-in-Ok c =
    let g = c.args in
    let both = plane_fresh g.source_width g.source_height g.lanes g.crop_x g.crop_y g.crop_width g.crop_height g.target_width g.target_height
    g.work.now g.«record».now c.if-record-lt-RECORD_WORDS.false c.start_plane-answer.result c.start_plane-answer.ensures.number _ c.start_plane-answer.ensures.work c.in-Ok.job _ c.in-Ok.is c.start_plane-answer.ensures.job c.store_job.ensures in
    record { number = both.0; work = both.1.0; «record» = both.1.1 }
