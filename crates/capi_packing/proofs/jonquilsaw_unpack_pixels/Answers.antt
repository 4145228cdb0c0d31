-- The boundary's test of the layout word, then the library's answer. Assumes nothing.
use Rattle.capi_packing.proofs.Packings.{unpack_misused, unpack_told}
use Rattle.capi_packing.proofs.jonquilsaw_unpack_pixels.Goals as goal

pub returns-then-layout-ge-LAYOUTS : goal.returns-then-layout-ge-LAYOUTS
returns-then-layout-ge-LAYOUTS c =
    let g = c.args in
    let both = unpack_misused g.layout g.bytes.now g.argb.now c.if-layout-ge-LAYOUTS.true in
    record { number = both.0; argb = both.1 }

pub returns : goal.returns
returns c =
    let g = c.args in
    let l = c.layout_of in
    let a = c.unpack_pixels-answer in
    let both = unpack_told g.layout g.bytes.now g.argb.now c.if-layout-ge-LAYOUTS.false l.result l.ensures a.result a.ensures.number _ a.ensures.out _ c.number_of.ensures in
    record { number = both.0; argb = both.1 }
