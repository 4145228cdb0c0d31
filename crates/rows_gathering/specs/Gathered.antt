-- What `gather_block` promises: the sums of the pixels of up to 32 columns, where the width does not grow. Each column has eight: every second pixel from its
-- first on, its four bytes, then every second from its second on. So each fits 16 bits where a column has at most 512 pixels. Assumes nothing.
use Rattle.std.specs.Prelude.{ℕ, suc, ◌+◌, ◌-◌, ◌*◌, ◌/◌, ◌%◌, min, Bool, ◌&&◌, cond, List, ◌++◌, eqb, leb, ltb, length, drop}
use Rattle.arithmetic.specs.Sum.{sum}
use Rattle.arithmetic.specs.Table.{tabulate}
use Rattle.pixels.specs.Sizes.{pixel_lanes, max_side}
use Rattle.pixels_layout.specs.declared.PixelLayout.{PixelLayout}
use Rattle.pixels_layout.specs.Layout.{places_of}
use Rattle.rows.specs.Column.{start}
use Rattle.rows.specs.Inner.Import.{byte_at}
use Rattle.rows.specs.Tones.{toned_at}

-- the pixels of column j
unfoldable pub pixels_of : ℕ → ℕ → ℕ → ℕ
pixels_of n m j = start n m (suc j) - start n m j

-- of `count` pixels from pixel x on the sum of every second: h = 0 from the first on, h = 1 from the second on
unfoldable pub every_second : (ℕ → ℕ) → ℕ → ℕ → ℕ → ℕ
every_second p x count h = sum (λ t. p (x + 2 * t + h)) 0 ((count + 1 - h) / 2)

-- the columns of a block that begins with column `first`
abbrev pub block_columns : ℕ → ℕ → ℕ
block_columns m first = min 32 (m - first)

-- whether there is such a block: sides in range, a width that does not grow, columns of at most 512 pixels, a whole row, a column of the target
unfoldable pub block_fits : ℕ → ℕ → ℕ → ℕ → Bool
block_fits n m first bytes =
    leb m n && leb n max_side && ltb n (512 * m) && ltb first m && eqb bytes (pixel_lanes * n)

-- entry y of the sums of bytes p: of column y / 8 of the block, byte y % 4; and all of them over the beginning of what was there
unfoldable pub entry_of : (ℕ → ℕ → ℕ) → ℕ → ℕ → ℕ → ℕ → ℕ
entry_of p n m first y = every_second (p (y % 4)) (start n m (first + y / 8)) (pixels_of n m (first + y / 8)) (y / 4 % 2)

abbrev pub summed : (ℕ → ℕ → ℕ) → ℕ → ℕ → ℕ → List ℕ → List ℕ
summed p n m first sums = tabulate (entry_of p n m first) (8 * block_columns m first) ++ drop (8 * block_columns m first) sums

-- how a byte is read: as it stands, or matted by the alpha at `place`
abbrev pub read_at : Bool → List ℕ → ℕ → ℕ → ℕ → ℕ
read_at plain s place = cond plain (byte_at s) (toned_at s place)

-- the sums after the call, and how many pixels were summed; nothing of what is no block
unfoldable pub gathered_sums : PixelLayout → Bool → ℕ → ℕ → ℕ → List ℕ → List ℕ → List ℕ
gathered_sums layout plain n m first s sums = cond (block_fits n m first (length s)) (summed (read_at plain s (places_of layout).a) n m first sums) sums

unfoldable pub gathered_pixels : ℕ → ℕ → ℕ → ℕ → ℕ
gathered_pixels n m first bytes = cond (block_fits n m first bytes) (start n m (first + block_columns m first) - start n m first) 0
