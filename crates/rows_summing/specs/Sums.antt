-- What `sum_block` promises: the sums of the pixels of up to 32 columns, where the width does not grow, each byte matted by its pixel's alpha, the alpha itself
-- not. Each column has eight: every second pixel from its first on, its four bytes, then every second from its second on. Assumes nothing.
use Rattle.std.specs.Prelude.{ℕ, ◌+◌, ◌*◌, ◌/◌, ◌%◌, cond, List, ◌++◌, length, drop}
use Rattle.arithmetic.specs.Table.{tabulate}
use Rattle.pixels_layout.specs.declared.PixelLayout.{PixelLayout}
use Rattle.pixels_layout.specs.Layout.{places_of}
use Rattle.rows.specs.Column.{start}
use Rattle.rows.specs.Tones.{toned_at}
pub use Rattle.rows_gathering.specs.Gathered.{pixels_of, every_second, block_columns, block_fits}

-- entry y: of column y / 8 of the block, byte y % 4
unfoldable pub block_sum : PixelLayout → List ℕ → ℕ → ℕ → ℕ → ℕ → ℕ
block_sum layout s n m first y =
    every_second (toned_at s (places_of layout).a (y % 4)) (start n m (first + y / 8)) (pixels_of n m (first + y / 8)) (y / 4 % 2)

-- the sums after the call: over the beginning of what was there, or that as it was
unfoldable pub block_sums : PixelLayout → ℕ → ℕ → ℕ → List ℕ → List ℕ → List ℕ
block_sums layout n m first s sums =
    cond (block_fits n m first (length s))
    (tabulate (block_sum layout s n m first) (8 * block_columns m first) ++ drop (8 * block_columns m first) sums)
    sums
