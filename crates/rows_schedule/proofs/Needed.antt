-- U Y, the crop rows that output row Y needs (MATHEMATICS 2, 3 and 4): it is the least u whose R is above Y, it does not fall, it rises with every row
-- where the height does not grow, and d, what the last of these crop rows has left over, is in range. Assumes nothing.
use Prim.Native.Nat.{ℕ, zero, suc, ◌+◌, ◌*◌, ◌-◌, ◌/◌, ◌≤◌, ◌<◌}
use mathlib.Core.Path.{◌≡◌, sym, ◌∙◌}
use mathlib.Core.Logic.{◌⊎◌, inl, inr}
use native.Mathlib.Omega.{arith}
use native.Mathlib.Nat.{le-div_iff_mul-le, lt_of_mul-lt-mul_right, mul-le-mul_right}
use borrow.Author.Tests.{le-leb, lt-leb, ne_eqb}
use Rattle.arithmetic.specs.Quotient.{ceil}
use Rattle.arithmetic.proofs.Orders.{le_or_lt}
use Rattle.arithmetic.proofs.Quotients.{ceil_low, ceil_high, ceil_le, ceil_mono, div_least}
use Rattle.rows_schedule.specs.Schedule.{used, made, rows_by, needed, since}
use Rattle.rows_schedule.proofs.Made.{Form, down, one, up, form, made_down, made_one, made_up, made_none, made_all}
use Rattle.rows_schedule.proofs.Crop.{inside, rows_none, rows_moved}

-- ---- the three forms
pub needed_down : (h g y : ℕ) → g ≤ h → needed h g y ≡ ceil (suc y * h) g
unfolding needed
needed_down h g y l = simp (le-leb g h l)

pub needed_one : (g y : ℕ) → 1 < g → needed 1 g y ≡ 1
unfolding needed
needed_one g y l = simp (lt-leb g 1 l)

pub needed_up : (h g y : ℕ) → 1 < h → h < g → needed h g y ≡ 1 + ceil (y * (h - 1)) (g - 1)
unfolding needed
needed_up h g y l m = simp (lt-leb g h m, ne_eqb h 1 (omega arith))

-- ---- needed y ≤ u and y < R of u say the same

-- a number of crop rows that makes row y is enough
pub needed_le_made : (h g u y : ℕ) → 0 < h → 0 < g → y < made h g u → needed h g y ≤ u
needed_le_made h g zero y p q l = absurd (let z : y < 0 = rw (made_none h g p) at l in omega arith)
needed_le_made h g (suc u) y p q l = by (form h g p)
  where
    by : Form h g → needed h g y ≤ suc u
    by (down m) =
        let b : suc y * h ≤ suc u * g = (le-div_iff_mul-le p).0 (rw (made_down h g (suc u) m) at l) in
        rw (needed_down h g y m) (ceil_le g q b)
    by (one e m) = rw (e, needed_one g y m) (omega arith)
    by (up m k) =
        let b : y < 1 + u * (g - 1) / (h - 1) = rw (made_up h g u m k) at l in
        let ph : 0 < h - 1 = omega arith in
        let c : y * (h - 1) ≤ u * (g - 1) = (le-div_iff_mul-le ph).0 (omega arith) in
        rw (needed_up h g y m k) (omega (arith, ceil_le {x = y * (h - 1)} {k = u} (g - 1) (omega arith) c))

-- as many crop rows as row y needs, or more, make it; a single crop row makes no more than g
makes : (h g u y : ℕ) → 0 < h → 0 < g → (h ≡ 1 → 1 < g → y < g) → needed h g y ≤ u → y < made h g u
makes h g u y p q l n = by u n (form h g p)
  where
    by : (u : ℕ) → needed h g y ≤ u → Form h g → y < made h g u
    by u n (down m) =
        let b : ceil (suc y * h) g ≤ u = rw (needed_down h g y m) at n in
        let c : suc y * h ≤ u * g = omega (arith, ceil_low (suc y * h) g (omega arith), mul-le-mul_right g b) in
        rw (made_down h g u m) (div_least {x = u * g} {k = suc y} h p c)
    by zero n (one e m) = absurd (let b : needed 1 g y ≤ 0 = rw e at n in omega (arith, needed_one g y m))
    by (suc u) n (one e m) = rw (e, made_one g u m) (l e m)
    by zero n (up m k) = absurd (omega (arith, needed_up h g y m k))
    by (suc u) n (up m k) =
        let b : ceil (y * (h - 1)) (g - 1) ≤ u = omega (arith, needed_up h g y m k) in
        let c : y * (h - 1) ≤ u * (g - 1) = omega (arith, ceil_low (y * (h - 1)) (g - 1) (omega arith), mul-le-mul_right (g - 1) b) in
        rw (made_up h g u m k) (omega (arith, div_least {x = u * (g - 1)} {k = y} (h - 1) (omega arith) c))

pub made_of_needed : (h g u y : ℕ) → 0 < h → y < g → needed h g y ≤ u → y < made h g u
made_of_needed h g u y p l n = makes h g u y p (omega arith) (λ e m. l) n

-- ---- the least such number; for the bands of request 9 (SCOPE)
pub needed_makes : (h g y : ℕ) → 0 < h → y < g → y < made h g (needed h g y)
needed_makes h g y p l = made_of_needed h g (needed h g y) y p l (omega arith)

pub needed_least : (h g u y : ℕ) → 0 < h → 0 < g → u < needed h g y → made h g u ≤ y
needed_least h g u y p q l = by (le_or_lt (made h g u) y)
  where
    by : (made h g u ≤ y) ⊎ (y < made h g u) → made h g u ≤ y
    by (inl m) = m
    by (inr m) = absurd (omega (arith, needed_le_made h g u y p q m))

-- the crop row with which R rises above y is the last that row y needs
pub needed_is : (h g u y : ℕ) → 0 < h → 0 < g → made h g u ≤ y → y < made h g (suc u) → needed h g y ≡ suc u
needed_is h g u y p q a b = by (le_or_lt (needed h g y) u)
  where
    few : h ≡ 1 → 1 < g → y < g
    few e m = let c : y < made 1 g (suc u) = rw e at b in rw (made_one g u m) at c

    by : (needed h g y ≤ u) ⊎ (u < needed h g y) → needed h g y ≡ suc u
    by (inr m) = omega (arith, needed_le_made h g (suc u) y p q b)
    by (inl m) = absurd (omega (arith, makes h g u y p q few m))

pub needed_some : (h g y : ℕ) → 0 < h → 0 < g → 0 < needed h g y
needed_some h g y p q = by (form h g p)
  where
    by : Form h g → 0 < needed h g y
    by (down m) = rw (needed_down h g y m) (lt_of_mul-lt-mul_right g (omega (arith, ceil_low (suc y * h) g q)))
    by (one e m) = rw (e, needed_one g y m) (omega arith)
    by (up m k) = rw (needed_up h g y m k) (omega arith)

pub needed_le : (h g y : ℕ) → 0 < h → y < g → needed h g y ≤ h
needed_le h g y p l = needed_le_made h g h y p (omega arith) (rw (made_all h g p) l)

-- ---- the next row needs no fewer crop rows; where the height does not grow, more
pub needed_mono : (h g y : ℕ) → 0 < h → 0 < g → needed h g y ≤ needed h g (suc y)
needed_mono h g y p q = by (form h g p)
  where
    by : Form h g → needed h g y ≤ needed h g (suc y)
    by (down m) =
        rw (needed_down h g y m, needed_down h g (suc y) m)
        (ceil_mono {x = suc y * h} {y = suc (suc y) * h} g q (omega arith))
    by (one e m) = rw (e, needed_one g y m, needed_one g (suc y) m) (omega arith)
    by (up m k) =
        rw (needed_up h g y m k, needed_up h g (suc y) m k)
        (omega (arith, ceil_mono {x = y * (h - 1)} {y = suc y * (h - 1)} (g - 1) (omega arith) (omega arith)))

pub needed_rise : (h g y : ℕ) → 0 < g → g ≤ h → needed h g y < needed h g (suc y)
needed_rise h g y q m =
    rw (needed_down h g y m, needed_down h g (suc y) m)
    (let a = ceil_high (suc y * h) g q in
    let b = ceil_low (suc (suc y) * h) g q in
    lt_of_mul-lt-mul_right g (omega arith))

-- ---- d, g ≤ h: at least 0 and below g
pub down_low : (h g y : ℕ) → 0 < g → g ≤ h → suc y * h ≤ needed h g y * g
down_low h g y q m = rw (needed_down h g y m) (ceil_low (suc y * h) g q)

pub down_high : (h g y : ℕ) → 0 < g → g ≤ h → needed h g y * g < suc y * h + g
down_high h g y q m = rw (needed_down h g y m) (ceil_high (suc y * h) g q)

-- equal heights: every row needs its own crop row, and d is 0
pub needed_equal : (h y : ℕ) → 0 < h → needed h h y ≡ suc y
needed_equal h y p =
    let low = down_low h h y p (omega arith) in
    let high = down_high h h y p (omega arith) in
    let a : y < needed h h y = lt_of_mul-lt-mul_right h (omega arith) in
    let b : needed h h y < suc (suc y) = lt_of_mul-lt-mul_right h (omega arith) in
    omega arith

-- ---- d, g > h: at least 0 and below g - 1

-- one crop row has the same form: the ceiling of 0 is 0
pub needed_grow : (h g y : ℕ) → 0 < h → h < g → needed h g y ≡ 1 + ceil (y * (h - 1)) (g - 1)
needed_grow h g y p m = by (form h g p)
  where
    by : Form h g → needed h g y ≡ 1 + ceil (y * (h - 1)) (g - 1)
    by (down l) = absurd (omega arith)
    by (one e l) =
        let none : ceil (y * (h - 1)) (g - 1) ≤ 0 = ceil_le {x = y * (h - 1)} {k = 0} (g - 1) (omega arith) (rw e (omega arith)) in
        let is : needed h g y ≡ 1 = rw e (needed_one g y l) in
        omega arith
    by (up l k) = needed_up h g y l k

grow_back : (h g y : ℕ) → 0 < h → h < g → needed h g y - 1 ≡ ceil (y * (h - 1)) (g - 1)
grow_back h g y p m = omega (arith, needed_grow h g y p m)

pub up_low : (h g y : ℕ) → 0 < h → h < g → y * (h - 1) ≤ (needed h g y - 1) * (g - 1)
up_low h g y p m = rw (grow_back h g y p m) (ceil_low (y * (h - 1)) (g - 1) (omega arith))

pub up_high : (h g y : ℕ) → 0 < h → h < g → (needed h g y - 1) * (g - 1) < y * (h - 1) + (g - 1)
up_high h g y p m = rw (grow_back h g y p m) (ceil_high (y * (h - 1)) (g - 1) (omega arith))

-- ---- U(Y - 1)
pub since_le : (h g u y : ℕ) → 0 < h → 0 < g → y ≤ made h g u → since h g y ≤ u
unfolding since
since_le h g u zero p q l = omega arith
since_le h g u (suc y) p q l = needed_le_made h g u y p q l

pub since_needed : (h g y : ℕ) → 0 < h → 0 < g → since h g y ≤ needed h g y
unfolding since
since_needed h g zero p q = omega arith
since_needed h g (suc y) p q = needed_mono h g y p q

pub since_rise : (h g y : ℕ) → 0 < g → g ≤ h → since h g y < needed h g y
unfolding since
since_rise h g zero q m = needed_some h g 0 (omega arith) q
since_rise h g (suc y) q m = needed_rise h g y q m

-- ---- a source row that makes row t ready brings the last crop row that it needs; k source rows accepted, t output rows taken
pub needed_used : (top h g k t : ℕ) → 0 < h → 0 < g → rows_by top h g (k - 1) ≤ t → t < rows_by top h g k → needed h g t ≡ used top h k
needed_used top h g zero t p q a b = absurd (omega (arith, rows_none top h g p))
needed_used top h g (suc k) t p q a b =
    let e : suc k - 1 ≡ k = omega arith in
    let a2 : rows_by top h g k ≤ t = rw e at a in
    let (lo, hi) = rows_moved top h g p k (omega arith) in
    let i = inside top h k lo hi in
    let b2 : t < made h g (suc (used top h k)) = rw i at b in
    needed_is h g (used top h k) t p q a2 b2 ∙ sym i
