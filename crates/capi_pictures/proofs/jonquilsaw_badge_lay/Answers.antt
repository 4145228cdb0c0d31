-- The boundary's test of both layout words, then the library's answer. Assumes nothing.
use Rattle.capi_pictures.proofs.Badges.{badge_misused, badge_misused_2, badge_told}
use Rattle.capi_pictures.proofs.jonquilsaw_badge_lay.Goals as goal

pub returns-then-layout-ge-LAYOUTS : goal.returns-then-layout-ge-LAYOUTS
returns-then-layout-ge-LAYOUTS c =
    let g = c.args in
    let both = badge_misused g.width g.height g.layout g.pixels.now g.badge_width g.badge_height g.badge_layout g.badge.now c.if-layout-ge-LAYOUTS.true in
    record { number = both.0; pixels = both.1 }

pub returns-then-badge_layout-ge-LAYOUTS : goal.returns-then-badge_layout-ge-LAYOUTS
returns-then-badge_layout-ge-LAYOUTS c =
    let g = c.args in
    let both = badge_misused_2 g.width g.height g.layout g.pixels.now g.badge_width g.badge_height g.badge_layout g.badge.now c.if-badge_layout-ge-LAYOUTS.true in
    record { number = both.0; pixels = both.1 }

pub returns : goal.returns
returns c =
    let g = c.args in
    let l = c.layout_of in
    let k = c.layout_of-2 in
    let a = c.lay_badge-answer in
    let both = badge_told g.width g.height g.layout g.pixels.now g.badge_width g.badge_height g.badge_layout g.badge.now c.if-layout-ge-LAYOUTS.false c.if-badge_layout-ge-LAYOUTS.false
    l.result k.result l.ensures k.ensures a.result a.ensures.number _ a.ensures.pixels _ c.number_of.ensures in
    record { number = both.0; pixels = both.1 }
