-- `some_clear` meets its contract: each turn ands one more pixel, and the high byte of all is 255 exactly if every alpha so far is. Assumes nothing.
use Prim.Native.Nat.{ℕ, ◌<◌}
use mathlib.Core.Path.{◌≡◌, sym}
use native.Mathlib.Omega.{arith}
use lib.ListN.{get_or}
use Rattle.rows_restoring.specs.Inner.Restoring.{pixels_in}
use Rattle.rows_restoring.proofs.OpaqueRows.{and_first, and_turn}
use Rattle.rows_restoring.proofs.some_clear.Goals as goal

pub loop-j-init : goal.loop-j-init
loop-j-init c = and_first c.args.out.now

pub loop-j-preserved : goal.loop-j-preserved
loop-j-preserved c =
    let small : (y : ℕ) → get_or c.args.out.now y 0 < 256 = λ y. (c.type_inv.out y).fits in
    and_turn small c.loop-j.invariant c.word-all.ensures

pub returns : goal.returns
returns c =
    let e : c.loop-j.j ≡ pixels_in c.args.out.now = omega arith in
    sym (rw e at c.loop-j.invariant.flag_is)
