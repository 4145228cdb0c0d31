-- The boundary's test, then the library's answer with its flag stored. Assumes nothing.
use Rattle.pixels_alpha.specs.Alpha.{picture_flag}
use Rattle.capi_pictures.proofs.Pictures.{has_alpha_misused, has_alpha_told}
use Rattle.capi_pictures.proofs.jonquilsaw_has_alpha.Goals as goal

pub returns-then-misused : goal.returns-then-misused
returns-then-misused c =
    let g = c.args in
    let both = has_alpha_misused g.width g.height g.layout g.pixels.now g.flag.now c.misused.ensures c.if-misused.true in
    record { number = both.0; flag = both.1 }

pub returns : goal.returns
unfolding picture_flag
returns c =
    let g = c.args in
    let l = c.layout_of in
    let both = has_alpha_told g.width g.height g.layout g.pixels.now g.flag.now
    c.misused.ensures c.if-misused.false l.result l.ensures c.picture_has_alpha-answer.result c.picture_has_alpha-answer.ensures.number c.picture_has_alpha-answer.ensures.flag _ _ (c.store_flag.ensures.number, c.store_flag.ensures.flag) in
    record { number = both.0; flag = both.1 }
