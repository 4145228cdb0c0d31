-- None was ready before the last row counted; the loop ends at the last row that there may be or where a job has a row ready. Assumes nothing.
use mathlib.Core.Path.{◌≡◌, sym, ◌∙◌}
use Rattle.group_rules.proofs.Going.{group_offer_goes}
use Rattle.group_tests.proofs.Testing.{ready_here}
use Rattle.group.proofs.Going.{legal_offer, most_some}
use native.Mathlib.Omega.{arith}
use Rattle.group.proofs.Counted.{counting_first, counting_more, counting_ready, counting_full}
use Rattle.group.proofs.count_rows.Goals as goal

pub most_rows-most-requires : goal.most_rows-most-requires
most_rows-most-requires c = legal_offer _ _ _ c.requires

pub loop-c-init : goal.loop-c-init
loop-c-init c =
    let a = c.args in
    counting_first a.g a.n _ c.most_rows-most.ensures (omega (arith, c.most_rows-most.ensures, most_some _ _ _ (group_offer_goes _ _ _ c.requires)))

pub returns-then-some_ready : goal.returns-then-some_ready
returns-then-some_ready c =
    let l = c.loop-c in
    let a = c.args in
    counting_ready a.g a.n _ c.most_rows-most.ensures l.c l.invariant (omega arith) (sym (ready_here _ (legal_offer _ _ _ c.requires) _) ∙ sym c.some_ready.ensures ∙ c.if-some_ready.true)

pub loop-c-preserved : goal.loop-c-preserved
loop-c-preserved c =
    let l = c.loop-c in
    let a = c.args in
    counting_more a.g a.n _ c.most_rows-most.ensures l.c l.invariant (omega arith) (sym (ready_here _ (legal_offer _ _ _ c.requires) _) ∙ sym c.some_ready.ensures ∙ c.if-some_ready.false)

pub returns : goal.returns
returns c =
    let a = c.args in
    let most = c.most_rows-most.ensures in
    let e : c.loop-c.c ≡ c.most_rows-most.result = omega (arith, most, most_some _ _ _ (group_offer_goes _ _ _ c.requires)) in
    counting_full a.g a.n _ most (rw e at c.loop-c.invariant)
