-- `restore_pixels` meets its contract: each turn restores the next pixel or finds it opaque. Assumes nothing.
use Prim.Native.Nat.{ℕ, ◌<◌}
use native.Mathlib.Omega.{arith}
use lib.ListN.{get_or}
use Rattle.arithmetic.proofs.Stores.{all_stored}
use Rattle.rows_restoring.proofs.RestoredPixels.{restore_first, restore_turn, opaque_turn}
use Rattle.rows_restoring.proofs.restore_pixels.Goals as goal
use Rattle.rows_restoring.proofs.restore_pixels.Goals.{then-out-at, else-out-at}

pub loop-j-init : goal.loop-j-init
loop-j-init c = restore_first c.args.out.now

pub loop-j-preserved : goal.loop-j-preserved
loop-j-preserved c =
    let l = c.loop-j in
    let small : (y : ℕ) → get_or c.args.out.now y 0 < 256 = λ y. (c.slice_known-1.given y).fits in
    let more = c.loop-j-test.true in
    elim c.if-out-at.branch [
      | then-out-at w ↦ rw w.out-is (restore_turn small l.invariant more w.restore_pixel.ensures)
      | else-out-at w ↦ rw w.out-is (opaque_turn small l.invariant more w.if-out-at.false)
    ]

pub returns : goal.returns
returns c = all_stored c.loop-j.invariant.bytes (omega arith)
