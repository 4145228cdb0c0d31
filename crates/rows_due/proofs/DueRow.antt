-- When u crop rows are those of an output row: the test as the code makes it, and what it tells. Assumes nothing.
use Prim.Native.Nat.{ℕ, suc, ◌+◌, ◌*◌, ◌-◌, ◌^◌, ◌≤◌, ◌<◌}
use mathlib.Core.Path.{◌≡◌, sym, ap, ◌∙◌}
use mathlib.Core.Bool.{true, false, true≢false}
use mathlib.Core.Logic.{⊎_elim}
use native.Mathlib.Omega.{arith}
use native.Mathlib.Nat.{mul-le-mul, add-sub_cancel_left}
use lib.Dec.{leb, ltb}
use borrow.Author.Tests.{le-leb, lt-leb, lt-ltb, le-ltb, leb-true, ltb-true}
use Rattle.arithmetic.proofs.Orders.{le_or_lt}
use Rattle.arithmetic.specs.Quotient.{ceil}
use Rattle.arithmetic.proofs.Quotients.{ceil_low, ceil_high, ceil_is}
use Rattle.rows_schedule.specs.Schedule.{needed}
use Rattle.rows_schedule.proofs.Needed.{needed_down, needed_grow}
use Rattle.pixels.proofs.Truths.{both_true}
use Rattle.rows_due.specs.Due.{within, due}

-- ---- a range
pub range_low : (x from room : ℕ) → within x from room ≡ true → from ≤ x
range_low x from room e = leb-true from x (both_true (leb from x) (ltb x (from + room)) e).0

pub range_high : (x from room : ℕ) → within x from room ≡ true → x < from + room
range_high x from room e = ltb-true x (from + room) (both_true (leb from x) (ltb x (from + room)) e).1

-- ---- which of the two heights is meant
pub due_down : (h g u y : ℕ) → g ≤ h → due h g u y ≡ within (u * g) (suc y * h) g
unfolding due
due_down h g u y l = simp (le-leb g h l)

pub due_none : (h g u y : ℕ) → h < g → u ≡ 0 → due h g u y ≡ false
unfolding due
due_none h g u y l e = simp (lt-leb g h l, le-ltb 0 u (omega arith))

pub due_up : (h g u y : ℕ) → h < g → 1 ≤ u → due h g u y ≡ within ((u - 1) * (g - 1)) (y * (h - 1)) (g - 1)
unfolding due
due_up h g u y l p = simp (lt-leb g h l, lt-ltb 0 u p)

-- where the height grows, a row that is due has a crop row
pub due_some : (h g u y : ℕ) → h < g → due h g u y ≡ true → 1 ≤ u
due_some h g u y l e =
    ⊎_elim (λ z. absurd (true≢false (sym e ∙ due_none h g u y l (omega arith)))) (λ p. p) (le_or_lt u 0)

-- ---- the crop rows that row y needs are those for which it is due, and no others
range_is : (x from room : ℕ) → from ≤ x → x < from + room → within x from room ≡ true
range_is x from room l u = simp (le-leb from x l, lt-ltb x (from + room) u)

pub needed_due : (h g y : ℕ) → 1 ≤ h → 1 ≤ g → due h g (needed h g y) y ≡ true
needed_due h g y p q = ⊎_elim down up (le_or_lt g h)
  where
    down : g ≤ h → due h g (needed h g y) y ≡ true
    down l =
        rw (needed_down h g y l)
        (due_down h g (ceil (suc y * h) g) y l ∙ range_is _ _ g (ceil_low (suc y * h) g q) (ceil_high (suc y * h) g q))

    up : h < g → due h g (needed h g y) y ≡ true
    up l =
        let c : ℕ = ceil (y * (h - 1)) (g - 1) in
        let pos : 0 < g - 1 = omega arith in
        let low : y * (h - 1) ≤ c * (g - 1) = ceil_low (y * (h - 1)) (g - 1) pos in
        let high : c * (g - 1) < y * (h - 1) + (g - 1) = ceil_high (y * (h - 1)) (g - 1) pos in
        rw (needed_grow h g y p l)
        (due_up h g (1 + c) y l (omega arith) ∙ ap (λ (t : ℕ). within (t * (g - 1)) (y * (h - 1)) (g - 1)) (add-sub_cancel_left 1 c) ∙ range_is _ _ (g - 1) low high)

-- an end in itself: no other count is due, so `due` says the same as `needed`
pub due_needed : (h g u y : ℕ) → 1 ≤ h → due h g u y ≡ true → u ≡ needed h g y
due_needed h g u y p e = ⊎_elim down up (le_or_lt g h)
  where
    down : g ≤ h → u ≡ needed h g y
    down l =
        let d = sym (due_down h g u y l) ∙ e in
        let low = range_low (u * g) (suc y * h) g d in
        let high = range_high (u * g) (suc y * h) g d in
        sym (needed_down h g y l ∙ ceil_is (suc y * h) g {q = u} {r = u * g - suc y * h} (omega arith) (omega arith))

    up : h < g → u ≡ needed h g y
    up l =
        let some : 1 ≤ u = due_some h g u y l e in
        let d = sym (due_up h g u y l some) ∙ e in
        let low = range_low ((u - 1) * (g - 1)) (y * (h - 1)) (g - 1) d in
        let high = range_high ((u - 1) * (g - 1)) (y * (h - 1)) (g - 1) d in
        let least : ceil (y * (h - 1)) (g - 1) ≡ u - 1 =
        ceil_is (y * (h - 1)) (g - 1) {q = u - 1} {r = (u - 1) * (g - 1) - y * (h - 1)} (omega arith) (omega arith) in
        sym (needed_grow h g y p l ∙ omega arith)

-- ---- the product of a row's number, one more than it, fits 64 bits
pub row_most : {y h : ℕ} → y < 2 ^ 32 → h < 2 ^ 32 → (y + 1) * h ≤ 2 ^ 32 * 0xffff_ffff
row_most {y} {h} hy hh = mul-le-mul {n₁ = y + 1} {m₁ = h} {n₂ = 2 ^ 32} {m₂ = 0xffff_ffff} (omega arith) (omega arith)
