-- `number` reads digit by digit: what is read so far is kept by each turn, and each way out decides the whole text. Assumes nothing.
use Prim.Native.Nat.{◌+◌, ◌*◌}
use mathlib.Core.Path.{◌≡◌, sym, ◌∙◌}
use native.Mathlib.Omega.{arith}
use Rattle.preview_decimal.proofs.Reading.{read_first, read_turn}
use Rattle.preview_decimal.proofs.number.Goals as goal

pub loop-b-init : goal.loop-b-init
loop-b-init c = read_first _

pub loop-b-preserved : goal.loop-b-preserved
loop-b-preserved c =
    let v = c.loop-b.value in
    let (less, is) = c.in_ok-value.ensures in
    let whole : c.in_ok-value.value ≡ 10 * v + c.digit_of.result = omega (arith, is, c.in_ok-checked_mul.ensures) in
    let turn = read_turn c.loop-b.invariant c.loop-b-test.true (sym c.is_digit.ensures ∙ c.if-not-is_digit.false) in
    rw (whole, c.digit_of.ensures) (turn (omega (arith, less, is, whole, c.digit_of.ensures)))
