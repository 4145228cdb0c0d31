-- Each comparison is asked where the ones before it passed. Assumes nothing.
use mathlib.Core.Path.{◌≡◌}
use mathlib.Core.Bool.{◌&&◌}
use Rattle.group_rules.specs.Group.{same_layout, same_kind}
use Rattle.group_rules.proofs.Alike.{layout_asked, kind_asked, not_asked, lanes_decide, others_decide}
use Rattle.group_rules.proofs.plans_alike.Goals.{then-eq, else-eq, then-eq-2, else-eq-2}
use Rattle.group_rules.proofs.plans_alike.Goals as goal

pub returns-then-eq-3 : goal.returns-then-eq-3
returns-then-eq-3 c =
    let a = c.args in
    let layout : c.if-eq.value ≡ (c.eq.result && same_layout a.q.layout a.p.layout) = elim c.if-eq.branch [ then-eq w ↦ layout_asked _ a.q.layout a.p.layout w.if-eq.true w.eq-then-eq.ensures w.value-is | else-eq w ↦ not_asked _ _ w.if-eq.false w.value-is ] in
    let kind : c.if-eq-2.value ≡ (c.if-eq.value && same_kind a.q.kind a.p.kind) = elim c.if-eq-2.branch [ then-eq-2 w ↦ kind_asked _ a.q.kind a.p.kind w.if-eq-2.true w.eq-then-eq-2.ensures w.value-is | else-eq-2 w ↦ not_asked _ _ w.if-eq-2.false w.value-is ] in
    lanes_decide a.p a.q _ _ _ c.eq.ensures layout kind c.if-eq-3.true

pub returns-else-eq-3 : goal.returns-else-eq-3
returns-else-eq-3 c =
    let a = c.args in
    let layout : c.if-eq.value ≡ (c.eq.result && same_layout a.q.layout a.p.layout) = elim c.if-eq.branch [ then-eq w ↦ layout_asked _ a.q.layout a.p.layout w.if-eq.true w.eq-then-eq.ensures w.value-is | else-eq w ↦ not_asked _ _ w.if-eq.false w.value-is ] in
    let kind : c.if-eq-2.value ≡ (c.if-eq.value && same_kind a.q.kind a.p.kind) = elim c.if-eq-2.branch [ then-eq-2 w ↦ kind_asked _ a.q.kind a.p.kind w.if-eq-2.true w.eq-then-eq-2.ensures w.value-is | else-eq-2 w ↦ not_asked _ _ w.if-eq-2.false w.value-is ] in
    others_decide a.p a.q _ _ _ c.eq.ensures layout kind c.if-eq-3.false
