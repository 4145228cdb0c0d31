-- What the sums of a block come to: the two of a byte of a column make the column's sum, and each fits 16 bits. Assumes nothing.
use Prim.Native.Nat.{ℕ, suc, ◌+◌, ◌-◌, ◌*◌, ◌≤◌, ◌<◌}
use mathlib.Core.Path.{◌≡◌, ap, ap₂, ◌∙◌}
use mathlib.Core.Bool.{Bool, true, false, cond}
use mathlib.Core.List.{List, ◌++◌}
use native.Mathlib.Omega.{arith}
use lib.ListN.{length, get_or, drop, length-append, length-drop}
use Rattle.arithmetic.specs.Table.{tabulate}
use Rattle.arithmetic.proofs.Tables.{length_tabulate}
use Rattle.pixels_layout.specs.declared.PixelLayout.{PixelLayout}
use Rattle.pixels_layout.specs.Layout.{places_of}
use Rattle.rows.specs.Column.{start, column_sum}
use Rattle.rows.specs.Tones.{toned_at}
use Rattle.rows.specs.Inner.Import.{Bytes}
use Rattle.rows.proofs.Tones.{toned_at_byte}
use Rattle.rows_gathering.specs.Gathered.{pixels_of, every_second, block_columns, block_fits, entry_of, summed}
use Rattle.rows_gathering.proofs.Blocks.{block_of, pixels_most, summed_entry, every_second_lem, second_most}
use Rattle.rows_summing.specs.Sums.{block_sum, block_sums}

module _ (layout : PixelLayout) (n m first : ℕ) (s sums : List ℕ) where
  pub block_written : block_fits n m first (length s) ≡ true → block_sums layout n m first s sums ≡ summed (toned_at s (places_of layout).a) n m first sums
  unfolding block_sums block_sum entry_of
  block_written e = simp e

  pub block_kept : block_fits n m first (length s) ≡ false → block_sums layout n m first s sums ≡ sums
  unfolding block_sums
  block_kept e = simp e

  module _ (fits : block_fits n m first (length s) ≡ true) where
    pub block_entry : (k i h : ℕ) → k < block_columns m first → i < 4 → h < 2
        → get_or (block_sums layout n m first s sums) (8 * k + 4 * h + i) 0 ≡ every_second (toned_at s (places_of layout).a i) (start n m (first + k)) (pixels_of n m (first + k)) h
    block_entry k i h l byte half =
        ap (λ (t : List ℕ). get_or t (8 * k + 4 * h + i) 0) (block_written fits)
        ∙ summed_entry (toned_at s (places_of layout).a) n m first k i h byte half sums l

    -- the two sums of byte i make the sum of the column
    pub block_column : (k i : ℕ) → k < block_columns m first → i < 4
        → get_or (block_sums layout n m first s sums) (8 * k + i) 0 + get_or (block_sums layout n m first s sums) (8 * k + 4 + i) 0
        ≡ column_sum (toned_at s (places_of layout).a i) n m (first + k)
    unfolding column_sum pixels_of
    block_column k i l byte =
        let p : ℕ → ℕ = toned_at s (places_of layout).a i in
        let even : 8 * k + i ≡ 8 * k + 4 * 0 + i = omega arith in
        let odd : 8 * k + 4 + i ≡ 8 * k + 4 * 1 + i = omega arith in
        ap₂ (λ (a b : ℕ). get_or (block_sums layout n m first s sums) a 0 + get_or (block_sums layout n m first s sums) b 0) even odd
        ∙ ap₂ ◌+◌ (block_entry k i 0 l byte (omega arith)) (block_entry k i 1 l byte (omega arith))
        ∙ every_second_lem p (start n m (first + k)) (start n m (suc (first + k)) - start n m (first + k))

    -- and each is at most 65280
    pub block_most : Bytes s → (k i h : ℕ) → k < block_columns m first → i < 4 → h < 2 → get_or (block_sums layout n m first s sums) (8 * k + 4 * h + i) 0 ≤ 65280
    block_most bytes k i h l byte half =
        rw (block_entry k i h l byte half)
        (second_most (toned_at s (places_of layout).a i) (toned_at_byte s bytes (places_of layout).a i) (start n m (first + k)) (pixels_of n m (first + k)) h
        (pixels_most n m (first + k) (block_of n m first (length s) fits).0.short))

  -- the array keeps its length
  pub block_length : length sums ≡ 256 → length (block_sums layout n m first s sums) ≡ 256
  unfolding block_sums block_sum
  block_length long = by (block_fits n m first (length s))
    where
      by : (b : Bool)
          → length (cond b (tabulate (block_sum layout s n m first) (8 * block_columns m first) ++ drop (8 * block_columns m first) sums) sums) ≡ 256
      by true = simp (length-append, length_tabulate, length-drop) (omega arith)
      by false = long
