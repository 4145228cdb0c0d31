-- The half after `widen_row`, by the number and the widths. Assumes nothing.
use Prim.Native.Nat.{ℕ, ◌≤◌, ◌<◌}
use mathlib.Core.Path.{◌≡◌, sym, ◌∙◌}
use mathlib.Core.Logic.{◌⊎◌, inl, inr}
use mathlib.Core.List.{List}
use lib.ListN.{length}
use borrow.Author.Tests.{lt-ltb, le-ltb}
use Rattle.arithmetic.proofs.Orders.{le_or_lt}
use Rattle.pixels.specs.declared.Refusal.{Refusal}
use Rattle.pixels.specs.Refusals.{number}
use Rattle.pixels.specs.Sizes.{pixel_lanes}
use Rattle.pixels_layout.specs.declared.PixelLayout.{PixelLayout}
use Rattle.rows_tests.specs.Tests.{import_number}
use Rattle.rows.specs.Import.{import_half}
use Rattle.rows.proofs.Importing.{import_kept}
use Rattle.rows_growing.specs.Growing.{grown_half}

module _ (layout : PixelLayout) (n m : ℕ) (s half : List ℕ) where
  pub widened : n < m → grown_half layout n m s half ≡ import_half layout n m s half
  unfolding grown_half
  widened grows = simp (lt-ltb n m grows)

  pub not_widened : m ≤ n → half ≡ grown_half layout n m s half
  unfolding grown_half
  not_widened shrinks = simp (le-ltb n m shrinks)

  -- a row turned away
  pub turned_away : (why : Refusal) → number why ≡ import_number pixel_lanes n m (length s) (length half) → half ≡ grown_half layout n m s half
  turned_away why e = by (le_or_lt m n) (import_kept layout n m s half why e)
    where
      by : (m ≤ n) ⊎ (n < m) → half ≡ import_half layout n m s half → half ≡ grown_half layout n m s half
      by (inl h) kept = not_widened h
      by (inr h) kept = kept ∙ sym (widened h)
