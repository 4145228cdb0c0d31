-- The two matted colours sum to at most 255. Assumes nothing.
use native.Mathlib.Omega.{arith}
use Rattle.pixels_badge.proofs.Sums.{sum_is, sum_most}
use Rattle.pixels_badge.proofs.blend.Goals as goal

pub overflow_add-result : goal.overflow_add-result
overflow_add-result c =
    let a = c.args in
    omega (arith, sum_most a.alpha a.colour a.under _ _ (omega arith) (omega arith) (omega arith) c.matte.ensures c.matte-2.ensures)

pub returns : goal.returns
returns c =
    let a = c.args in
    let x = c.matte.ensures in
    let y = c.matte-2.ensures in
    record {
      is = sum_is a.alpha a.colour a.under _ _ x y;
      small = sum_most a.alpha a.colour a.under _ _ (omega arith) (omega arith) (omega arith) x y;
    }
