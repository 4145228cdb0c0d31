-- The closed form of output row y reads the crop rows below U y and no other (MATHEMATICS 5): two pictures that agree there have the same row.
-- So a row that is taken is settled by the rows accepted before it. Assumes nothing.
use Prim.Native.Nat.{ℕ, zero, suc, ◌-◌, ◌<◌, ◌≤◌}
use mathlib.Core.Path.{◌≡◌, refl}
use mathlib.Core.Logic.{◌⊎◌, inl, inr}
use native.Mathlib.Omega.{arith}
use borrow.Author.Tests.{le-leb, lt-leb}
use Rattle.arithmetic.proofs.Orders.{le_or_lt}
use Rattle.arithmetic.proofs.Sums.{sum_cong}
use Rattle.rows_schedule.specs.Schedule.{needed, since}
use Rattle.rows_schedule.proofs.Needed.{since_needed}
use Rattle.rows.specs.Closed.{newest, share_before, first_half, scaled_byte}

pub newest_same : (v v' : ℕ → ℕ) (u : ℕ) → ((c : ℕ) → c < u → v c ≡ v' c) → newest v u ≡ newest v' u
unfolding newest
newest_same v v' zero same = refl
newest_same v v' (suc u) same = same u (omega arith)

module _ (h g : ℕ) (v v' : ℕ → ℕ) where
  pub share_same : (y : ℕ) → ((c : ℕ) → c < since h g y → v c ≡ v' c) → share_before h g v y ≡ share_before h g v' y
  unfolding share_before since
  share_same zero same = refl
  share_same (suc y) same = rw (newest_same v v' (needed h g y) same)

  pub first_half_same : (y u : ℕ) → since h g y ≤ u → ((c : ℕ) → c < u → v c ≡ v' c) → first_half h g v y u ≡ first_half h g v' y u
  unfolding first_half
  first_half_same y u le same =
      rw (share_same y (λ c l. same c (omega arith)), sum_cong v v' (since h g y) (u - since h g y) (λ c a b. same c (omega arith)))

  pub scaled_byte_same : (sp y : ℕ) → 0 < h → 0 < g → ((c : ℕ) → c < needed h g y → v c ≡ v' c) → scaled_byte sp h g v y ≡ scaled_byte sp h g v' y
  unfolding scaled_byte since
  scaled_byte_same sp y ph pg same = by (le_or_lt g h)
    where
      by : (g ≤ h) ⊎ (h < g) → scaled_byte sp h g v y ≡ scaled_byte sp h g v' y
      by (inl m) =
          simp (le-leb g h m, first_half_same y (needed h g y) (since_needed h g y ph pg) same, share_same (suc y) same)
      by (inr m) =
          simp (lt-leb g h m, newest_same v v' (needed h g y) same, newest_same v v' (needed h g y - 1) (λ c l. same c (omega arith)))
