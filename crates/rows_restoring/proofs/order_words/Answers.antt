-- `order_words` meets its contract: each turn puts the lanes of the next pixel in order. Assumes nothing.
use Prim.Native.Nat.{ℕ, ◌<◌}
use native.Mathlib.Omega.{arith}
use lib.ListN.{get_or}
use Rattle.arithmetic.proofs.Stores.{all_stored}
use Rattle.rows_restoring.proofs.RestoredPixels.{order_first, order_turn}
use Rattle.rows_restoring.proofs.order_words.Goals as goal

pub loop-j-init : goal.loop-j-init
loop-j-init g c = order_first g.layout c.args.out.now

pub loop-j-preserved : goal.loop-j-preserved
loop-j-preserved g c =
    let small : (y : ℕ) → get_or c.args.out.now y 0 < 256 = λ y. (c.slice_known-1.given y).fits in
    order_turn g.layout small c.loop-j.invariant c.loop-j-test.true c.word-argb.ensures (c.requires.1.1 _ _ c.word-argb.type_inv c.order.ensures) c.put_word.ensures

pub returns : goal.returns
returns g c = all_stored c.loop-j.invariant.bytes (omega arith)
