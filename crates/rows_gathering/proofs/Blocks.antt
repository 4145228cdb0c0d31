-- Every second pixel of a column, and the entries of a block's sums; what makes a block. Assumes nothing.
use Prim.Native.Nat.{ℕ, zero, suc, ◌+◌, ◌-◌, ◌*◌, ◌/◌, ◌%◌, ◌≤◌, ◌<◌}
use mathlib.Core.Path.{◌≡◌, ap, ◌∙◌}
use mathlib.Core.Bool.{Bool, true, false, ◌&&◌}
use mathlib.Core.List.{List}
use mathlib.Core.Logic.{◌⊎◌, inl, inr}
use native.Mathlib.Omega.{arith}
use native.Mathlib.Nat.{eq-zero-or-pos, lt_of_mul-lt-mul_right, mul-le-mul_right}
use lib.Dec.{eqb, leb, ltb}
use lib.ListN.{length, get_or, drop}
use borrow.Author.Tests.{le-leb, lt-leb, lt-ltb, le-ltb, eq-eqb, leb-true, ltb-true, eqb-true}
use Rattle.arithmetic.specs.Sum.{sum}
use Rattle.arithmetic.proofs.Tables.{get_d_table}
use Rattle.arithmetic.proofs.Sums.{sum_zero, sum_suc, sum_most}
use Rattle.arithmetic.proofs.Quotients.{ceil_low, ceil_high, ceil_mono}
use Rattle.pixels.specs.Sizes.{pixel_lanes, max_side}
use Rattle.pixels.proofs.Truths.{both_true}
use Rattle.pixels_layout.specs.declared.PixelLayout.{PixelLayout}
use Rattle.pixels_layout.specs.Layout.{places_of}
use Rattle.rows.specs.Column.{start}
use Rattle.rows.specs.Inner.Import.{Bytes}
use Rattle.rows.proofs.Lanes.{byte_byte}
use Rattle.rows.proofs.Tones.{toned_at_byte}
use Rattle.rows_gathering.specs.Gathered.{pixels_of, every_second, block_columns, block_fits, entry_of, summed, read_at, gathered_sums, gathered_pixels}
use Rattle.rows_gathering.specs.Inner.{BlockFits, step_sum}

-- ---- every second pixel
pub step_zero : (p : ℕ → ℕ) (x h : ℕ) → step_sum p x h 0 ≡ 0
unfolding step_sum
step_zero p x h = sum_zero (λ t. p (x + 2 * t + h)) 0

pub step_suc : (p : ℕ → ℕ) (x h t : ℕ) → step_sum p x h (suc t) ≡ step_sum p x h t + p (x + 2 * t + h)
unfolding step_sum
step_suc p x h t =
    sum_suc (λ i. p (x + 2 * i + h)) 0 t
    ∙ ap (λ (i : ℕ). sum (λ (j : ℕ). p (x + 2 * j + h)) 0 t + p (x + 2 * i + h)) (let z : 0 + t ≡ t = omega arith in z)

pub step_most : (p : ℕ → ℕ) → ((i : ℕ) → p i ≤ 255) → (x h t : ℕ) → step_sum p x h t ≤ t * 255
unfolding step_sum
step_most p byte x h t = sum_most (λ i. p (x + 2 * i + h)) 255 0 t (λ i l u. byte (x + 2 * i + h))

-- of an even number of pixels each has half; of an odd number those from the first on have the last one more
pub second_even : (p : ℕ → ℕ) (x count h : ℕ) → count % 2 ≡ 0 → h ≤ 1 → every_second p x count h ≡ step_sum p x h (count / 2)
unfolding every_second step_sum
second_even p x count h e l =
    ap (sum (λ (t : ℕ). p (x + 2 * t + h)) 0) (omega arith)

pub second_odd : (p : ℕ → ℕ) (x count : ℕ) → 0 < count % 2 → every_second p x count 0 ≡ step_sum p x 0 (count / 2) + p (x + count - 1)
unfolding every_second step_sum
second_odd p x count e =
    ap (step_sum p x 0) (let q : (count + 1 - 0) / 2 ≡ suc (count / 2) = omega arith in q)
    ∙ step_suc p x 0 (count / 2)
    ∙ ap (λ (y : ℕ). step_sum p x 0 (count / 2) + p y) (let q : x + 2 * (count / 2) + 0 ≡ x + count - 1 = omega arith in q)

pub second_less : (p : ℕ → ℕ) (x count : ℕ) → 0 < count % 2 → every_second p x count 1 ≡ step_sum p x 1 (count / 2)
unfolding every_second step_sum
second_less p x count e = ap (step_sum p x 1) (let q : (count + 1 - 1) / 2 ≡ count / 2 = omega arith in q)

-- both together are all
steps : (p : ℕ → ℕ) (x t : ℕ) → step_sum p x 0 t + step_sum p x 1 t ≡ sum p x (2 * t)
steps p x zero = omega (arith, step_zero p x 0, step_zero p x 1, sum_zero p x)
steps p x (suc t) =
    let two : sum p x (2 * suc t) ≡ sum p x (suc (suc (2 * t))) = ap (sum p x) (omega arith) in
    let first : p (x + 2 * t + 0) ≡ p (x + 2 * t) = ap p (omega arith) in
    let second : p (x + 2 * t + 1) ≡ p (x + suc (2 * t)) = ap p (omega arith) in
    omega (arith, steps p x t, step_suc p x 0 t, step_suc p x 1 t, sum_suc p x (suc (2 * t)), sum_suc p x (2 * t), two, first, second)

pub every_second_lem : (p : ℕ → ℕ) (x count : ℕ) → every_second p x count 0 + every_second p x count 1 ≡ sum p x count
every_second_lem p x count = by (eq-zero-or-pos (count % 2))
  where
    by : (count % 2 ≡ 0) ⊎ (0 < count % 2) → every_second p x count 0 + every_second p x count 1 ≡ sum p x count
    by (inl e) =
        let all : sum p x (2 * (count / 2)) ≡ sum p x count = ap (sum p x) (omega arith) in
        omega (arith, second_even p x count 0 e (omega arith), second_even p x count 1 e (omega arith), steps p x (count / 2), all)
    by (inr e) =
        let all : sum p x (suc (2 * (count / 2))) ≡ sum p x count = ap (sum p x) (omega arith) in
        let last : p (x + count - 1) ≡ p (x + 2 * (count / 2)) = ap p (omega arith) in
        omega (arith, second_odd p x count e, second_less p x count e, steps p x (count / 2), sum_suc p x (2 * (count / 2)), last, all)

pub second_most : (p : ℕ → ℕ) → ((i : ℕ) → p i ≤ 255) → (x count h : ℕ) → count ≤ 512 → every_second p x count h ≤ 65280
unfolding every_second step_sum
second_most p byte x count h few = omega (arith, step_most p byte x h ((count + 1 - h) / 2))

-- ---- what makes a block
pub block_sides : {n m first : ℕ} → m ≤ n → n ≤ max_side → n < 512 * m → first < m → BlockFits n m first
block_sides a b c d = record { shrinks = a; n_small = b; short = c; inside = d }

pub block_of : (n m first bytes : ℕ) → block_fits n m first bytes ≡ true → BlockFits n m first × (bytes ≡ pixel_lanes * n)
unfolding block_fits
block_of n m first bytes e =
    let d = both_true (leb m n && leb n max_side && ltb n (512 * m) && ltb first m) (eqb bytes (pixel_lanes * n)) e in
    let c = both_true (leb m n && leb n max_side && ltb n (512 * m)) (ltb first m) d.0 in
    let b = both_true (leb m n && leb n max_side) (ltb n (512 * m)) c.0 in
    let a = both_true (leb m n) (leb n max_side) b.0 in (
      record {
        shrinks = leb-true m n a.0;
        n_small = leb-true n max_side a.1;
        short = ltb-true n (512 * m) b.1;
        inside = ltb-true first m c.1;
      },
      eqb-true bytes (pixel_lanes * n) d.1,
    )

pub block_good : (n m first bytes : ℕ) → BlockFits n m first → bytes ≡ pixel_lanes * n → block_fits n m first bytes ≡ true
unfolding block_fits
block_good n m first bytes f w =
    simp (le-leb m n f.shrinks, le-leb n max_side f.n_small, lt-ltb n (512 * m) f.short, lt-ltb first m f.inside, eq-eqb bytes (pixel_lanes * n) w)

-- what makes none, test by test
module _ (n m first bytes : ℕ) where
  pub none_grows : n < m → block_fits n m first bytes ≡ false
  unfolding block_fits
  none_grows h = simp (lt-leb m n h)

  pub none_large : m ≤ n → max_side < n → block_fits n m first bytes ≡ false
  unfolding block_fits
  none_large a h = simp (le-leb m n a, lt-leb n max_side h)

  pub none_long : m ≤ n → n ≤ max_side → 512 * m ≤ n → block_fits n m first bytes ≡ false
  unfolding block_fits
  none_long a b h = simp (le-leb m n a, le-leb n max_side b, le-ltb n (512 * m) h)

  pub none_past : m ≤ n → n ≤ max_side → n < 512 * m → m ≤ first → block_fits n m first bytes ≡ false
  unfolding block_fits
  none_past a b c h = simp (le-leb m n a, le-leb n max_side b, lt-ltb n (512 * m) c, le-ltb first m h)

  pub fits_whole : BlockFits n m first → eqb bytes (pixel_lanes * n) ≡ block_fits n m first bytes
  unfolding block_fits
  fits_whole f = simp (le-leb m n f.shrinks, le-leb n max_side f.n_small, lt-ltb n (512 * m) f.short, lt-ltb first m f.inside)

-- a column has at most 512 pixels
pub pixels_most : (n m j : ℕ) → n < 512 * m → pixels_of n m j ≤ 512
unfolding pixels_of start
pixels_most n m j l =
    let pos : 0 < m = omega arith in
    small (Rattle.arithmetic.specs.Quotient.ceil (j * n) m) (Rattle.arithmetic.specs.Quotient.ceil (suc j * n) m) (ceil_low (j * n) m pos) (ceil_high (suc j * n) m pos)
  where
    small : (x y : ℕ) → j * n ≤ x * m → y * m < suc j * n + m → y - x ≤ 512
    small x y low high =
        let below : y * m < (x + 513) * m = omega arith in
        omega (arith, lt_of_mul-lt-mul_right m below)

-- ---- entries of the sums
module _ (p : ℕ → ℕ → ℕ) (n m first k i h : ℕ) (byte : i < 4) (half : h < 2) where
  pub entry_is : entry_of p n m first (8 * k + 4 * h + i) ≡ every_second (p i) (start n m (first + k)) (pixels_of n m (first + k)) h
  unfolding entry_of
  entry_is =
      let column : (8 * k + 4 * h + i) / 8 ≡ k = omega arith in
      let lane : (8 * k + 4 * h + i) % 4 ≡ i = omega arith in
      let pair : (8 * k + 4 * h + i) / 4 ≡ 2 * k + h = omega arith in
      let parity : (8 * k + 4 * h + i) / 4 % 2 ≡ h = rw pair (omega arith) in
      rw (column, lane, parity)

  -- the same of the sums stored
  pub summed_entry : (sums : List ℕ) → k < block_columns m first
      → get_or (summed p n m first sums) (8 * k + 4 * h + i) 0 ≡ every_second (p i) (start n m (first + k)) (pixels_of n m (first + k)) h
  summed_entry sums l =
      get_d_table (entry_of p n m first) (8 * block_columns m first) (drop (8 * block_columns m first) sums) (8 * k + 4 * h + i) (omega arith)
      ∙ entry_is

-- ---- what a call comes to
module _ (layout : PixelLayout) (plain : Bool) (n m first : ℕ) (s sums : List ℕ) where
  pub gathered_none : block_fits n m first (length s) ≡ false → sums ≡ gathered_sums layout plain n m first s sums
  unfolding gathered_sums
  gathered_none e = simp e

  pub gathered_made : block_fits n m first (length s) ≡ true → {place : ℕ} {sums' : List ℕ} → place ≡ (places_of layout).a → sums' ≡ summed (read_at plain s place) n m first sums
      → sums' ≡ gathered_sums layout plain n m first s sums
  unfolding gathered_sums
  gathered_made e q made = simp e (rw (← q) made)

pub pixels_none : (n m first bytes : ℕ) → block_fits n m first bytes ≡ false → 0 ≡ gathered_pixels n m first bytes
unfolding gathered_pixels
pixels_none n m first bytes e = simp e

pub pixels_made : (n m first bytes : ℕ) → block_fits n m first bytes ≡ true → {r : ℕ} → r ≡ start n m (first + block_columns m first) - start n m first
    → r ≡ gathered_pixels n m first bytes
unfolding gathered_pixels
pixels_made n m first bytes e made = simp e made

-- the bytes read are bytes
pub read_byte_lem : (plain : Bool) (s : List ℕ) → Bytes s → (place k x : ℕ) → read_at plain s place k x ≤ 255
read_byte_lem true s bytes place k x = byte_byte s bytes k x
read_byte_lem false s bytes place k x = toned_at_byte s bytes place k x

-- a column does not begin before one to its left
pub start_past : (n m j k : ℕ) → 0 < m → start n m j ≤ start n m (j + k)
unfolding start
start_past n m j k pos = ceil_mono m pos (mul-le-mul_right n (let le : j ≤ j + k = omega arith in le))
