-- `needed_rows` meets its contract: each return is one case of the definition, and a product of two words leaves room for a word in 64 bits. Assumes nothing.
use Prim.Native.Nat.{ℕ, ◌+◌, ◌*◌, ◌-◌, ◌^◌, ◌≤◌, ◌<◌}
use mathlib.Core.Path.{◌≡◌, sym, ap, ◌∙◌}
use mathlib.Core.Logic.{◌⊎◌, inl, inr}
use native.Mathlib.Omega.{arith}
use native.Mathlib.Nat.{div-le_self}
use native.Mathlib.Numerals.{add-one}
use borrow.Author.Tests.{lt-leb, ne_eqb}
use Rattle.arithmetic.specs.Quotient.{ceil}
use Rattle.arithmetic.proofs.Orders.{le_or_lt}
use Rattle.arithmetic.proofs.Products.{most}
use Rattle.rows_schedule.specs.Schedule.{needed}
use Rattle.rows_schedule.proofs.Needed.{needed_down, needed_grow}
use Rattle.rows_schedule.proofs.needed_rows.Goals as goal

-- ---- the cases of the definition
shrinks : (h g y : ℕ) → g ≤ h → ceil ((y + 1) * h) g ≡ needed h g y
shrinks h g y l = ap (λ (z : ℕ). ceil (z * h) g) (add-one y) ∙ sym (needed_down h g y l)

-- one crop row has the same form, and so has none
grows : (h g y : ℕ) → h < g → needed h g y ≡ 1 + ceil (y * (h - 1)) (g - 1)
unfolding needed
grows h g y l = by (le_or_lt h 0)
  where
    by : (h ≤ 0) ⊎ (0 < h) → needed h g y ≡ 1 + ceil (y * (h - 1)) (g - 1)
    by (inl n) = simp (lt-leb g h l, ne_eqb h 1 (omega arith))
    by (inr n) = needed_grow h g y n l

-- ---- the products fit
product : (y h : ℕ) → y < 2 ^ 32 → h < 2 ^ 32 → (y + 1) * h ≤ 0xffff_ffff_0000_0000
product y h a b = omega (arith, most {x = y} {y = h} a b)

ceil-most : (x d : ℕ) → ceil x d ≤ x + (d - 1)
unfolding ceil
ceil-most x d = div-le_self (x + (d - 1)) d

pub returns-then-target-height : goal.returns-then-target-height
returns-then-target-height c =
    let a = c.args in
    c.rounded_up.ensures ∙ shrinks a.height a.target a.row c.if-target-height.true

pub overflow_add-result : goal.overflow_add-result
overflow_add-result c =
    let a = c.args in
    let f = c.ranges in
    let less = c.saturating_sub in
    let of_row = most {x = a.row} {y = less.result} f.row.fits (omega (arith, less.ensures, f.height.fits)) in
    omega (arith, c.rounded_up-2.ensures, ceil-most (a.row * less.result) c.saturating_sub-2.result, of_row, c.saturating_sub-2.ensures, f.target.fits)

pub returns : goal.returns
returns c =
    let a = c.args in
    let made = rw (c.saturating_sub.ensures, c.saturating_sub-2.ensures) at c.rounded_up-2.ensures in
    ap (1 +◌) made ∙ sym (grows a.height a.target a.row c.if-target-height.false)
