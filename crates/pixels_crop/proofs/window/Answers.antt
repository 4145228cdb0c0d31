-- Inside the row it is the part asked for, outside the empty part. Assumes nothing.
use Rattle.arithmetic.proofs.Products.{most}
use Rattle.pixels_crop.proofs.Windows.{window_outside, window_inside}
use native.Mathlib.Omega.{arith}
use native.Mathlib.Nat.{add-sub_cancel_left}
use mathlib.Core.Path.{sym}
use Rattle.pixels_crop.proofs.window.Goals as goal

pub overflow_mul-at : goal.overflow_mul-at
overflow_mul-at c = let a = c.args in omega (arith, most {x = a.lanes} {y = a.x} (omega arith) (omega arith))

pub overflow_mul-len : goal.overflow_mul-len
overflow_mul-len c = let a = c.args in omega (arith, most {x = a.lanes} {y = a.width} (omega arith) (omega arith))

pub returns-then-row-at : goal.returns-then-row-at
returns-then-row-at c = let a = c.args in sym (window_outside a.lanes a.row.now a.x a.width (omega arith))

pub returns-then-row-at-2 : goal.returns-then-row-at-2
returns-then-row-at-2 c = let a = c.args in sym (window_outside a.lanes a.row.now a.x a.width (omega arith))

pub returns : goal.returns
returns c = let a = c.args in simp add-sub_cancel_left (sym (window_inside a.lanes a.row.now a.x a.width (omega arith)))
