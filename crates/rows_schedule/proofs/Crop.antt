-- R of k (SCOPE, "The job"; MATHEMATICS 4): source rows above and below the crop leave u, and so R, as it was; R of k starts at 0, does not
-- fall, is at most g, and is g once the crop's last row came. Assumes nothing.
use Prim.Native.Nat.{ℕ, zero, suc, ◌+◌, ◌≤◌, ◌<◌}
use mathlib.Core.Path.{◌≡◌, ap}
use mathlib.Core.Logic.{◌⊎◌, inl, inr}
use native.Mathlib.Omega.{arith}
use Rattle.arithmetic.proofs.Orders.{le_or_lt}
use Rattle.rows_schedule.specs.Schedule.{used, made, rows_by}
use Rattle.rows_schedule.proofs.Made.{made_none, made_mono, made_all}

-- ---- source row k is above the crop, inside it or below it
module _ (top h : ℕ) where
  pub inside : (k : ℕ) → top ≤ k → k < top + h → used top h (suc k) ≡ suc (used top h k)
  inside k a b = omega arith

  pub above : (k : ℕ) → k < top → used top h (suc k) ≡ used top h k
  above k a = omega arith

  pub below : (k : ℕ) → top + h ≤ k → used top h (suc k) ≡ used top h k
  below k a = omega arith

  pub data Place (k : ℕ) : Type 0 where
    within : top ≤ k → k < top + h → Place k
    beside : used top h (suc k) ≡ used top h k → (k < top) ⊎ (top + h ≤ k) → Place k

  pub place : (k : ℕ) → Place k
  place k = by (le_or_lt top k) (le_or_lt (top + h) k)
    where
      by : (top ≤ k) ⊎ (k < top) → (top + h ≤ k) ⊎ (k < top + h) → Place k
      by (inl a) (inr b) = within a b
      by (inl a) (inl b) = beside (below k b) (inr b)
      by (inr a) b = beside (above k a) (inl a)

  -- inside the crop source row k is crop row u
  pub used_row : (k : ℕ) → top ≤ k → k < top + h → top + used top h k ≡ k
  used_row k a b = omega arith

-- ---- R of k
module _ (top h g : ℕ) (ph : 0 < h) where
  pub rows_none : rows_by top h g 0 ≡ 0
  rows_none = let e : used top h 0 ≡ 0 = omega arith in rw e (made_none h g ph)

  pub rows_all : (k : ℕ) → top + h ≤ k → rows_by top h g k ≡ g
  rows_all k l = let e : used top h k ≡ h = omega arith in rw e (made_all h g ph)

  pub rows_mono : (k : ℕ) → rows_by top h g k ≤ rows_by top h g (suc k)
  rows_mono k = by (place top h k)
    where
      by : Place top h k → rows_by top h g k ≤ rows_by top h g (suc k)
      by (within a b) = rw (inside top h k a b) (made_mono h g (used top h k) ph)
      by (beside e w) = rw e (omega arith)

  pub rows_le : (k n : ℕ) → rows_by top h g k ≤ rows_by top h g (n + k)
  rows_le k zero = let e : zero + k ≡ k = omega arith in rw e (omega arith)
  rows_le k (suc n) = let e : suc n + k ≡ suc (n + k) = omega arith in rw e (omega (arith, rows_le k n, rows_mono (n + k)))

  pub rows_most : (k : ℕ) → rows_by top h g k ≤ g
  rows_most k = let e = rows_all (top + h + k) (omega arith) in omega (arith, rows_le k (top + h))

  -- a source row that makes an output row ready is inside the crop
  pub rows_moved : (k : ℕ) → rows_by top h g k < rows_by top h g (suc k) → (top ≤ k) × (k < top + h)
  rows_moved k l = by (place top h k)
    where
      by : Place top h k → (top ≤ k) × (k < top + h)
      by (within a b) = (a, b)
      by (beside e w) = absurd (let q : rows_by top h g (suc k) ≡ rows_by top h g k = ap (made h g) e in omega arith)
