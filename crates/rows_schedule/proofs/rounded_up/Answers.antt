-- `rounded_up` meets its contract: the library's quotient is the definition's, and with a denominator of 0 it is one by 0, which is 0. Assumes nothing.
use Prim.Native.Nat.{ℕ, ◌+◌, ◌-◌, ◌/◌, ◌%◌, ◌<◌, min}
use mathlib.Core.Path.{◌≡◌, sym, ap, ◌∙◌}
use mathlib.Core.Logic.{◌⊎◌, inl, inr}
use native.Mathlib.Nat.{div-zero, div-add-mod, mod-lt, eq-zero-or-pos}
use native.Mathlib.Omega.{arith}
use Rattle.arithmetic.specs.Quotient.{ceil}
use Rattle.arithmetic.proofs.Quotients.{ceil_is}
use Rattle.rows_schedule.proofs.rounded_up.Goals as goal

by_zero : (x d : ℕ) → d ≡ 0 → ceil x d ≡ 0
unfolding ceil
by_zero x d e = ap (λ (z : ℕ). (x + (z - 1)) / z) e ∙ div-zero (x + (0 - 1))

by_some : (x d : ℕ) → 0 < d → x / d + min 1 (x % d) ≡ ceil x d
by_some x d pos = by (eq-zero-or-pos (x % d))
  where
    by : (x % d ≡ 0) ⊎ (0 < x % d) → x / d + min 1 (x % d) ≡ ceil x d
    by (inl e) =
        let q : x / d + min 1 (x % d) ≡ x / d = omega arith in
        q ∙ sym (ceil_is x d {q = x / d} {r = 0} pos (omega (arith, div-add-mod x d, e)))
    by (inr l) =
        let q : x / d + min 1 (x % d) ≡ x / d + 1 = omega arith in
        q ∙ sym (ceil_is x d {q = x / d + 1} {r = d - x % d} (omega (arith, mod-lt x pos)) (omega (arith, div-add-mod x d, mod-lt x pos)))

pub returns-then-d-eq0 : goal.returns-then-d-eq0
returns-then-d-eq0 c = sym (by_zero c.args.x c.args.d c.if-d-eq0.true)

pub returns : goal.returns
returns c = c.div_ceil.ensures ∙ by_some c.args.x c.args.d (omega (arith, c.if-d-eq0.false))
