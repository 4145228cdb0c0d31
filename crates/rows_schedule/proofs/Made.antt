-- R of u (SCOPE, "The job"; MATHEMATICS 4): its three forms, that it starts at 0, does not fall, rises by at most one where the height does
-- not grow, and ends at g. Each law goes by the three forms once; a quotient is then compared by multiplying it out. Assumes nothing.
use Prim.Native.Nat.{ℕ, zero, suc, ◌+◌, ◌*◌, ◌-◌, ◌/◌, ◌≤◌, ◌<◌}
use mathlib.Core.Path.{◌≡◌, ◌∙◌}
use mathlib.Core.Logic.{◌⊎◌, inl, inr}
use native.Mathlib.Omega.{arith}
use native.Mathlib.Nat.{lt_of_mul-lt-mul_right}
use borrow.Author.Tests.{le-leb, lt-leb, ne_eqb}
use Rattle.arithmetic.proofs.Orders.{le_or_lt}
use Rattle.arithmetic.proofs.Quotients.{div_low, div_high, div_is, div_mono}
use Rattle.rows_schedule.specs.Schedule.{made}

-- ---- which of the three forms it is
pub data Form (h g : ℕ) : Type 0 where
  down : g ≤ h → Form h g
  one : h ≡ 1 → 1 < g → Form h g
  up : 1 < h → h < g → Form h g

pub form : (h g : ℕ) → 0 < h → Form h g
form h g p = by (le_or_lt g h) (le_or_lt h 1)
  where
    by : (g ≤ h) ⊎ (h < g) → (h ≤ 1) ⊎ (1 < h) → Form h g
    by (inl l) b = down l
    by (inr l) (inl b) = one (omega arith) (omega arith)
    by (inr l) (inr b) = up b l

-- ---- the three forms
pub made_down : (h g u : ℕ) → g ≤ h → made h g u ≡ u * g / h
unfolding made
made_down h g u l = simp (le-leb g h l)

pub made_one : (g u : ℕ) → 1 < g → made 1 g (suc u) ≡ g
unfolding made
made_one g u l = simp (lt-leb g 1 l, ne_eqb (suc u) 0 (omega arith))

pub made_up : (h g u : ℕ) → 1 < h → h < g → made h g (suc u) ≡ 1 + u * (g - 1) / (h - 1)
unfolding made
made_up h g u l m =
    let e : suc u - 1 ≡ u = omega arith in
    simp (lt-leb g h m, ne_eqb (suc u) 0 (omega arith), ne_eqb h 1 (omega arith), e)

-- ---- no crop row makes no row
pub made_none : (h g : ℕ) → 0 < h → made h g 0 ≡ 0
unfolding made
made_none h g p = by (le_or_lt g h)
  where
    zero_div : 0 * g / h ≡ 0
    zero_div = div_is h (omega arith) (omega arith)

    by : (g ≤ h) ⊎ (h < g) → made h g 0 ≡ 0
    by (inl l) = simp (le-leb g h l, zero_div)
    by (inr l) = simp (lt-leb g h l)

-- ---- R does not fall
pub made_mono : (h g u : ℕ) → 0 < h → made h g u ≤ made h g (suc u)
made_mono h g u p = by u (form h g p)
  where
    by : (u : ℕ) → Form h g → made h g u ≤ made h g (suc u)
    by u (down l) = rw (made_down h g u l, made_down h g (suc u) l) (div_mono h p (omega arith))
    by zero (one e l) = rw (made_none h g p) (omega arith)
    by zero (up l m) = rw (made_none h g p) (omega arith)
    by (suc u) (one e l) = rw (e, made_one g u l, made_one g (suc u) l) (omega arith)
    by (suc u) (up l m) =
        rw (made_up h g u l m, made_up h g (suc u) l m)
        (omega (arith, div_mono {x = u * (g - 1)} {y = suc u * (g - 1)} (h - 1) (omega arith) (omega arith)))

pub made_le : (h g u n : ℕ) → 0 < h → made h g u ≤ made h g (n + u)
made_le h g u zero p = let e : zero + u ≡ u = omega arith in rw e (omega arith)
made_le h g u (suc n) p =
    let e : suc n + u ≡ suc (n + u) = omega arith in
    rw e (omega (arith, made_le h g u n p, made_mono h g (n + u) p))

-- a height that does not grow: at most one row for each crop row; for the bands of request 9 (SCOPE)
pub made_step : (h g u : ℕ) → 0 < h → g ≤ h → made h g (suc u) ≤ suc (made h g u)
made_step h g u p l =
    rw (made_down h g u l, made_down h g (suc u) l)
    (let a = div_low (suc u * g) h in
    let b = div_high (u * g) h p in
    let c : (suc u * g / h) * h < suc (suc (u * g / h)) * h = omega arith in
    omega (arith, lt_of_mul-lt-mul_right h c))

-- ---- all crop rows make all rows
pub made_all : (h g : ℕ) → 0 < h → made h g h ≡ g
made_all h g p = by (form h g p)
  where
    div_exact : (d x : ℕ) → 0 < d → d * x / d ≡ x
    div_exact d x q = div_is d (omega arith) (omega arith)

    up_all : (k : ℕ) → 1 < suc k → suc k < g → made (suc k) g (suc k) ≡ g
    up_all k l m =
        let e : suc k - 1 ≡ k = omega arith in
        made_up (suc k) g k l m ∙ rw (e, div_exact k (g - 1) (omega arith)) (omega arith)

    over : (k : ℕ) → h ≡ suc k → 1 < h → h < g → made h g h ≡ g
    over k e l m = rw e (up_all k (rw e at l) (rw e at m))

    by : Form h g → made h g h ≡ g
    by (down l) = made_down h g h l ∙ div_exact h g p
    by (one e l) = rw e (made_one g 0 l)
    by (up l m) = over (h - 1) (omega arith) l m
