-- `check_restore` meets its contract: at each return the tests before it passed, and it is the first that applies. Assumes nothing.
use Rattle.rows_restoring.proofs.RestoreRow.{restore_passes}
use Rattle.rows_restoring.specs.Restoring.{restore_causes, restore_number}
use Rattle.pixels.proofs.Causes.{first_at}
use Rattle.pixels.proofs.Truths.{differ}
use mathlib.Core.Path.{sym, ◌∙◌}
use Rattle.rows_restoring.proofs.check_restore.Goals as goal

pub returns-then-bad_side : goal.returns-then-bad_side
unfolding restore_number
returns-then-bad_side c =
    let a = c.args in
    sym (first_at (restore_causes a.target_width a.out) 0 tt (sym c.bad_side.ensures ∙ c.if-bad_side.true))

pub returns-then-out-target_width : goal.returns-then-out-target_width
unfolding restore_number
returns-then-out-target_width c =
    let a = c.args in
    sym (first_at (restore_causes a.target_width a.out) 1 (sym c.bad_side.ensures ∙ c.if-bad_side.false, tt) (differ _ _ c.if-out-target_width.true))

pub returns : goal.returns
returns c = let a = c.args in sym (restore_passes a.target_width a.out (sym c.bad_side.ensures ∙ c.if-bad_side.false) c.if-out-target_width.false)
