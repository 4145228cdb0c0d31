-- The boundary's test, then the library's answer with its flag stored. Assumes nothing.
use Rattle.job_resize.specs.Resize.{resize_flag, resize_out, resize_work}
use Rattle.capi_pictures.proofs.Pictures.{resize_misused, resize_told}
use Rattle.capi_pictures.proofs.jonquilsaw_resize.Goals as goal

pub returns-then-misused : goal.returns-then-misused
returns-then-misused c =
    let g = c.args in
    let both = resize_misused g.source_width g.source_height g.layout g.target_width g.target_height g.pixels.now g.out.now g.work.now g.flag.now c.misused.ensures c.if-misused.true in
    record { number = both.0; out = both.1.0; work = both.1.1.0; flag = both.1.1.1 }

pub returns : goal.returns
unfolding resize_flag resize_out resize_work
returns c =
    let g = c.args in
    let l = c.layout_of in
    let both = resize_told g.source_width g.source_height g.layout g.target_width g.target_height g.pixels.now g.out.now g.work.now g.flag.now
    c.misused.ensures c.if-misused.false l.result l.ensures c.resize-answer.result c.resize-answer.ensures.number c.resize-answer.ensures.flag _ _ c.resize-answer.ensures.out c.resize-answer.ensures.work _ _ (c.store_flag.ensures.number, c.store_flag.ensures.flag) in
    record { number = both.0; out = both.1.0; work = both.1.1.0; flag = both.1.1.1 }
