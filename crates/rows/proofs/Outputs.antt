-- What a row that goes out takes off: the share f, whatever d is. Assumes nothing.
use Rattle.std.proofs.Common.{◌≡◌, ℕ, zero, suc, ◌*◌, ◌%◌, ◌^◌, ap, mul-zero, arith, ne_eqb}
use Rattle.arithmetic.specs.FixedPoint.{floor, frac}
use Rattle.arithmetic.specs.Word.{wrap_mul}
use Rattle.rows.specs.Output.{share}

-- the case d = 0 is no exception
pub share_is : (g d x : ℕ) → share g d x ≡ floor x (wrap_mul (frac 1 g) d)
unfolding share floor
share_is g zero x =
    let q : (frac 1 g * 0) % 2 ^ 32 ≡ 0 = ap (λ (t : ℕ). t % 2 ^ 32) (mul-zero (frac 1 g)) in
    rw q (omega arith)
share_is g (suc d) x = simp (ne_eqb (suc d) 0 (omega arith))
