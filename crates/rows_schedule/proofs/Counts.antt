-- The counts of a record: the test and the facts say the same, both ways. Assumes nothing.
use Prim.Native.Nat.{ℕ, ◌-◌, ◌≤◌}
use mathlib.Core.Path.{◌≡◌, refl, sym}
use mathlib.Core.Bool.{Bool, true, false, ◌&&◌, true≢false}
use lib.Dec.{leb}
use borrow.Author.Tests.{le-leb, leb-true}
use Rattle.rows_schedule.specs.Schedule.{rows_by, counts_fit}

three : (a b c : Bool) → (a && b && c) ≡ true → (a ≡ true) × ((b ≡ true) × (c ≡ true))
three true true c e = (refl, (refl, e))
three true false c e = absurd (true≢false (sym e))
three false b c e = absurd (true≢false (sym e))

module _ (top h g source k t : ℕ) where
  pub counts_of : counts_fit top h g source k t ≡ true → (k ≤ source) × ((rows_by top h g (k - 1) ≤ t) × (t ≤ rows_by top h g k))
  unfolding counts_fit
  counts_of e =
      let (a, b) = three (leb k source) (leb (rows_by top h g (k - 1)) t) (leb t (rows_by top h g k)) e in
      (leb-true _ _ a, (leb-true _ _ b.0, leb-true _ _ b.1))

  pub counts_good : k ≤ source → rows_by top h g (k - 1) ≤ t → t ≤ rows_by top h g k → counts_fit top h g source k t ≡ true
  unfolding counts_fit
  counts_good rows low high =
      simp (le-leb k source rows, le-leb (rows_by top h g (k - 1)) t low, le-leb t (rows_by top h g k) high)
