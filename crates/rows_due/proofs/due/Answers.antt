-- `due` meets its contract: the products fit 64 bits whatever the row and the rows used, and the range is that of the height's direction. Assumes nothing.
use Rattle.rows_due.proofs.DueRow.{due_down, due_none, due_up}
use Rattle.rows_due.specs.Due.{within}
use native.Mathlib.Omega.{arith}
use native.Mathlib.Numerals.{add-one}
use Prim.Native.Nat.{ℕ, ◌*◌}
use mathlib.Core.Path.{sym, ap, ◌∙◌}
use Rattle.rows_due.proofs.due.Goals as goal

pub returns-then-g-h : goal.returns-then-g-h
returns-then-g-h c =
    let a = c.args in
    c.in_range.ensures ∙ ap (λ (t : ℕ). within (a.used * a.g) (t * a.h) a.g) (add-one a.row) ∙ sym (due_down a.h a.g a.used a.row c.if-g-h.true)

pub returns-then-used-eq0 : goal.returns-then-used-eq0
returns-then-used-eq0 c = let a = c.args in sym (due_none a.h a.g a.used a.row c.if-g-h.false c.if-used-eq0.true)

pub returns : goal.returns
returns c =
    let a = c.args in
    rw (c.saturating_sub-a.ensures, c.saturating_sub-b.ensures, c.saturating_sub-c.ensures) at c.in_range-2.ensures
    ∙ sym (due_up a.h a.g a.used a.row c.if-g-h.false (omega (arith, c.if-used-eq0.false)))
