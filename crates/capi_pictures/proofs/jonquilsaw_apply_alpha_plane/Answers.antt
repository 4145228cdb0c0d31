-- The boundary's test, then the library's answer with its flag stored. Assumes nothing.
use Rattle.pixels_alpha.specs.Alpha.{alpha_flag, alpha_pixels}
use Rattle.capi_pictures.proofs.Pictures.{plane_misused, plane_told}
use Rattle.capi_pictures.proofs.jonquilsaw_apply_alpha_plane.Goals as goal

pub returns-then-misused : goal.returns-then-misused
returns-then-misused c =
    let g = c.args in
    let both = plane_misused g.width g.height g.layout g.pixels.now g.plane.now g.flag.now c.misused.ensures c.if-misused.true in
    record { number = both.0; pixels = both.1.0; flag = both.1.1 }

pub returns : goal.returns
unfolding alpha_flag alpha_pixels
returns c =
    let g = c.args in
    let l = c.layout_of in
    let both = plane_told g.width g.height g.layout g.pixels.now g.plane.now g.flag.now
    c.misused.ensures c.if-misused.false l.result l.ensures c.apply_alpha_plane-answer.result c.apply_alpha_plane-answer.ensures.number c.apply_alpha_plane-answer.ensures.flag _ c.apply_alpha_plane-answer.ensures.pixels _ _ (c.store_flag.ensures.number, c.store_flag.ensures.flag) in
    record { number = both.0; pixels = both.1.0; flag = both.1.1 }
