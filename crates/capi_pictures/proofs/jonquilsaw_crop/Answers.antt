-- The boundary's test, then the library's answer with its flag stored. Assumes nothing.
use Rattle.pixels_crop.specs.Crop.{crop_flag, crop_out}
use Rattle.capi_pictures.proofs.Pictures.{crop_misused, crop_told}
use Rattle.capi_pictures.proofs.jonquilsaw_crop.Goals as goal

pub returns-then-misused : goal.returns-then-misused
returns-then-misused c =
    let g = c.args in
    let both = crop_misused g.source_width g.source_height g.layout g.crop_x g.crop_y g.crop_width g.crop_height g.pixels.now g.out.now g.flag.now c.misused.ensures c.if-misused.true in
    record { number = both.0; out = both.1.0; flag = both.1.1 }

pub returns : goal.returns
unfolding crop_flag crop_out
returns c =
    let g = c.args in
    let l = c.layout_of in
    let both = crop_told g.source_width g.source_height g.layout g.crop_x g.crop_y g.crop_width g.crop_height g.pixels.now g.out.now g.flag.now
    c.misused.ensures c.if-misused.false l.result l.ensures c.crop-answer.result c.crop-answer.ensures.number c.crop-answer.ensures.flag _ c.crop-answer.ensures.out _ _ (c.store_flag.ensures.number, c.store_flag.ensures.flag) in
    record { number = both.0; out = both.1.0; flag = both.1.1 }
