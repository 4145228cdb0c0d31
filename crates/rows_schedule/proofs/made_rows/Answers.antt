-- `made_rows` meets its contract: each return is one case of the definition, and products of two words fit 64 bits. With a height of 0 the quotient is
-- one by 0, which is 0. Assumes nothing.
use Prim.Native.Nat.{ℕ, ◌+◌, ◌*◌, ◌-◌, ◌/◌, ◌^◌, ◌≤◌, ◌<◌}
use mathlib.Core.Path.{◌≡◌, sym, ◌∙◌, ap}
use native.Mathlib.Omega.{arith}
use native.Mathlib.Nat.{div-zero}
use borrow.Author.Tests.{lt-leb, eq-eqb, ne_eqb}
use Rattle.arithmetic.proofs.Products.{most}
use Rattle.rows_schedule.specs.Schedule.{made}
use Rattle.rows_schedule.proofs.Made.{made_down}
use Rattle.rows_schedule.proofs.made_rows.Goals as goal

-- ---- the cases of the definition
nothing : (h g u : ℕ) → h ≡ 0 → g ≤ h → made h g u ≡ 0
nothing h g u e l = made_down h g u l ∙ ap (λ (d : ℕ). u * g / d) e ∙ div-zero (u * g)

module _ (h g u : ℕ) (l : h < g) where
  no_row : u ≡ 0 → made h g u ≡ 0
  unfolding made
  no_row e = simp (lt-leb g h l, eq-eqb u 0 e)

  module _ (some : u ≡ 0 → ⊥) where
    single : h ≡ 1 → made h g u ≡ g
    unfolding made
    single e = simp (lt-leb g h l, ne_eqb u 0 some, eq-eqb h 1 e)

    several : (h ≡ 1 → ⊥) → made h g u ≡ 1 + (u - 1) * (g - 1) / (h - 1)
    unfolding made
    several e = simp (lt-leb g h l, ne_eqb u 0 some, ne_eqb h 1 e)

    bare : h ≡ 0 → made h g u ≡ 1
    bare e =
        let d : h - 1 ≡ 0 = omega arith in
        several (omega arith) ∙ ap (λ (d : ℕ). 1 + (u - 1) * (g - 1) / d) d ∙ ap (1 +◌) (div-zero ((u - 1) * (g - 1)))

-- ---- the products fit
below : (u g : ℕ) → u < 2 ^ 32 → g < 2 ^ 32 → (u - 1) * (g - 1) ≤ 0xffff_fffe_0000_0001
below u g a b = most {x = u - 1} {y = g - 1} (omega arith) (omega arith)

pub returns-then-height-eq0 : goal.returns-then-height-eq0
returns-then-height-eq0 c = let a = c.args in sym (nothing a.height a.target a.rows c.if-height-eq0.true c.if-target-height.true)

pub returns-then-target-height : goal.returns-then-target-height
returns-then-target-height c = let a = c.args in sym (made_down a.height a.target a.rows c.if-target-height.true)

pub returns-then-rows-eq0 : goal.returns-then-rows-eq0
returns-then-rows-eq0 c = let a = c.args in sym (no_row a.height a.target a.rows (omega arith) c.if-rows-eq0.true)

pub returns-then-height-eq1 : goal.returns-then-height-eq1
returns-then-height-eq1 c =
    let a = c.args in
    sym (single a.height a.target a.rows (omega arith) c.if-rows-eq0.false c.if-height-eq1.true)

pub returns-then-height-eq0-2 : goal.returns-then-height-eq0-2
returns-then-height-eq0-2 c =
    let a = c.args in
    sym (bare a.height a.target a.rows (omega arith) c.if-rows-eq0.false c.if-height-eq0-2.true)

pub returns : goal.returns
returns c =
    let a = c.args in
    sym (several a.height a.target a.rows (omega arith) c.if-rows-eq0.false c.if-height-eq1.false)
