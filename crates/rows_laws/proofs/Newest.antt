-- The newest of u crop rows' values: which it is, and its range. Assumes nothing.
use Prim.Native.Nat.{ℕ, zero, suc, ◌-◌, ◌≤◌, ◌<◌}
use mathlib.Core.Path.{◌≡◌, ap}
use native.Mathlib.Omega.{arith}
use Rattle.rows.specs.Closed.{newest}

pub newest_at : (v : ℕ → ℕ) (u : ℕ) → 0 < u → newest v u ≡ v (u - 1)
unfolding newest
newest_at v zero pos = absurd (omega arith)
newest_at v (suc u) pos = ap v (let q : u ≡ suc u - 1 = omega arith in q)

pub newest_most : (v : ℕ → ℕ) (k h u : ℕ) → ((c : ℕ) → c < h → v c ≤ k) → u ≤ h → newest v u ≤ k
unfolding newest
newest_most v k h zero most within = omega arith
newest_most v k h (suc u) most within = most u within
