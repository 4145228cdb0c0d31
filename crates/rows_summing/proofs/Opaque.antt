-- An opaque block: where all alphas come to 255 for each pixel, every one is 255, and a byte by such an alpha is the byte. So the sums of the bytes as they stand
-- are those of the bytes matted. Assumes nothing.
use Prim.Native.Nat.{ℕ, zero, suc, ◌+◌, ◌-◌, ◌*◌, ◌/◌, ◌%◌, ◌≤◌, ◌<◌}
use mathlib.Core.Path.{◌≡◌, refl, sym, ap, ap₂, ◌∙◌}
use mathlib.Core.Bool.{Bool, true, false, cond, true≢false}
use mathlib.Core.List.{List, ◌++◌}
use mathlib.Core.Logic.{◌⊎◌, inl, inr}
use native.Mathlib.Omega.{arith}
use native.Mathlib.Nat.{eq-or-lt_of_le, le_of_suc-le-suc, zero-add, add-zero, add-suc, mul-le-mul, mul-le-mul_right}
use native.Mathlib.Numerals.{add-one}
use lib.ListN.{length, get_or, drop}
use Rattle.arithmetic.specs.Sum.{sum}
use Rattle.arithmetic.proofs.Sums.{sum_zero, sum_suc, sum_split, sum_cong, sum_most}
use Rattle.arithmetic.proofs.Tables.{tabulate_cong, drop_table}
use Rattle.arithmetic.proofs.Quotients.{ceil_le, div_bound}
use Rattle.pixels.specs.Sizes.{pixel_lanes}
use Rattle.pixels_layout.specs.declared.PixelLayout.{PixelLayout}
use Rattle.pixels_layout.specs.Layout.{places_of}
use Rattle.pixels_layout.proofs.Tabled.{place_lt}
use Rattle.rows.specs.Column.{start}
use Rattle.rows.specs.Tones.{toned_at}
use Rattle.rows.specs.Inner.Import.{Bytes, byte_at}
use Rattle.rows.proofs.Lanes.{byte_byte}
use Rattle.rows.proofs.Tones.{toned_at_opaque}
use Rattle.rows_gathering.specs.Gathered.{pixels_of, every_second, block_columns, block_fits, entry_of, summed, read_at, gathered_sums, gathered_pixels}
use Rattle.rows_gathering.specs.Inner.{BlockFits}
use Rattle.rows_gathering.proofs.Blocks.{block_of, every_second_lem, summed_entry, start_past}
use Rattle.rows_summing.specs.Sums.{block_sums}
use Rattle.rows_summing.specs.Inner.{alpha_sum}
use Rattle.rows_summing.proofs.Blocks.{block_written}

pub alpha_in_lem : (layout : PixelLayout) {place : ℕ} → place ≡ (places_of layout).a → place < pixel_lanes
alpha_in_lem layout e = rw e (place_lt layout 3 (omega arith))

-- ---- a sum that is as large as it can be
pub sum_full : (p : ℕ → ℕ) (a n : ℕ) → ((i : ℕ) → p i ≤ 255) → sum p a n ≡ 255 * n → (i : ℕ) → a ≤ i → i < a + n → p i ≡ 255
sum_full p a zero byte e i l u = absurd (omega arith)
sum_full p a (suc n) byte e i l u = by (eq-or-lt_of_le (le_of_suc-le-suc (let le : suc i ≤ suc (a + n) = omega arith in le))) (sum_full p a n byte)
  where
    most : sum p a n ≤ n * 255
    most = sum_most p 255 a n (λ k _ _. byte k)

    by : (i ≡ a + n) ⊎ (i < a + n) → (sum p a n ≡ 255 * n → (k : ℕ) → a ≤ k → k < a + n → p k ≡ 255) → p i ≡ 255
    by (inl q) again = ap p q ∙ omega (arith, e, sum_suc p a n, most, byte (a + n))
    by (inr w) again = again (omega (arith, e, sum_suc p a n, most, byte (a + n))) i l w

-- the sums of columns side by side are the sum of their pixels
pub columns_sum : (p : ℕ → ℕ) (n m first c : ℕ) → 0 < m
    → sum (λ k. sum p (start n m (first + k)) (pixels_of n m (first + k))) 0 c ≡ sum p (start n m first) (start n m (first + c) - start n m first)
unfolding pixels_of
columns_sum p n m first zero pos =
    let none : start n m (first + 0) - start n m first ≡ 0 = rw (add-zero first) (omega arith) in
    sum_zero (λ k. sum p (start n m (first + k)) (pixels_of n m (first + k))) 0 ∙ sym (ap (sum p (start n m first)) none ∙ sum_zero p (start n m first))
columns_sum p n m first (suc c) pos =
    let x : ℕ = start n m first in
    let y : ℕ = start n m (first + c) in
    let z : ℕ = start n m (suc (first + c)) in
    let up : first + suc c ≡ suc (first + c) = add-suc first c in
    let one : first + c + 1 ≡ suc (first + c) = omega arith in
    let x-y : x ≤ y = start_past n m first c pos in
    let y-z : y ≤ z = rw one at (start_past n m (first + c) 1 pos) in
    let whole : z - x ≡ (y - x) + (z - y) = omega arith in
    let at : x + (y - x) ≡ y = omega arith in
    sum_suc (λ k. sum p (start n m (first + k)) (pixels_of n m (first + k))) 0 c
    ∙ ap₂ ◌+◌ (columns_sum p n m first c pos) (ap (λ (k : ℕ). sum p (start n m (first + k)) (pixels_of n m (first + k))) (zero-add c))
    ∙ ap (λ (w : ℕ). sum p x (y - x) + sum p w (z - y)) (sym at)
    ∙ sym (sum_split p x (y - x) (z - y))
    ∙ ap (sum p x) (sym whole)
    ∙ ap (λ (j : ℕ). sum p x (start n m j - x)) (sym up)

-- equal bytes, equal sums
second_cong : (p q : ℕ → ℕ) (x count h : ℕ) → h ≤ 1 → ((i : ℕ) → x ≤ i → i < x + count → p i ≡ q i) → every_second p x count h ≡ every_second q x count h
unfolding every_second
second_cong p q x count h l same =
    sum_cong (λ t. p (x + 2 * t + h)) (λ t. q (x + 2 * t + h)) 0 ((count + 1 - h) / 2) (λ t _ u. same (x + 2 * t + h) (omega arith) (omega arith))

module _ {n m first : ℕ} (fits : BlockFits n m first) where
  pos : 0 < m
  pos = omega (arith, fits.inside)

  -- no pixel of the block is past the row
  pub block_end : start n m (first + block_columns m first) ≤ n
  unfolding start
  block_end =
      let le : first + block_columns m first ≤ m = omega (arith, fits.inside) in
      ceil_le m pos (omega (arith, mul-le-mul_right n le))

  -- the pixel in which the block begins
  pub first_inside : first * n / m < n
  first_inside =
      let le : first + 1 ≤ m = omega (arith, fits.inside) in
      div_bound m pos (omega (arith, mul-le-mul_right n le, fits.shrinks))

  pub first_small : first * n ≤ 268435456
  first_small = mul-le-mul {n₁ = first} {m₁ = n} {n₂ = 16384} {m₂ = 16384} (omega (arith, fits.inside, fits.shrinks, fits.n_small)) fits.n_small

  -- bytes that are the same at the block's pixels have the same sums
  pub summed_cong : (p q : ℕ → ℕ → ℕ) (sums : List ℕ)
      → ((k x : ℕ) → start n m first ≤ x → x < start n m (first + block_columns m first) → p k x ≡ q k x) → summed p n m first sums ≡ summed q n m first sums
  unfolding entry_of pixels_of
  summed_cong p q sums same =
      ap (λ (t : List ℕ). t ++ drop (8 * block_columns m first) sums)
      (tabulate_cong (entry_of p n m first) (entry_of q n m first) (8 * block_columns m first) (λ y l. one y (y / 8) refl (omega arith)))
    where
      one : (y k : ℕ) → y / 8 ≡ k → k < block_columns m first → entry_of p n m first y ≡ entry_of q n m first y
      one y k e below =
          let rest : ℕ = block_columns m first - suc k in
          let left : start n m first ≤ start n m (first + k) = start_past n m first k pos in
          let next : start n m (first + k) ≤ start n m (first + k + 1) = start_past n m (first + k) 1 pos in
          let up : first + k + 1 ≡ suc (first + k) = omega arith in
          let right : start n m (suc (first + k)) ≤ start n m (suc (first + k) + rest) = start_past n m (suc (first + k)) rest pos in
          let end : suc (first + k) + rest ≡ first + block_columns m first = omega arith in
          let next' : start n m (first + k) ≤ start n m (suc (first + k)) = rw up at next in
          let right' : start n m (suc (first + k)) ≤ start n m (first + block_columns m first) = rw end at right in
          rw e
          (second_cong (p (y % 4)) (q (y % 4)) (start n m (first + k)) (start n m (suc (first + k)) - start n m (first + k)) (y / 4 % 2) (omega arith)
          (λ i l u. same (y % 4) i (omega arith) (omega arith)))

  module _ (s : List ℕ) (bytes : Bytes s) (place : ℕ) (within : place < 4) (sums sums' : List ℕ) (made : sums' ≡ summed (byte_at s) n m first sums) where
    -- the alphas of a column of the block
    alpha_column : (k : ℕ) → k < block_columns m first → alpha_sum sums' place k ≡ sum (byte_at s place) (start n m (first + k)) (pixels_of n m (first + k))
    unfolding alpha_sum
    alpha_column k l =
        let even : 8 * k + place ≡ 8 * k + 4 * 0 + place = omega arith in
        let odd : 8 * k + place + 4 ≡ 8 * k + 4 * 1 + place = omega arith in
        ap₂ (λ (a b : ℕ). get_or sums' a 0 + get_or sums' b 0) even odd
        ∙ ap (λ (l : List ℕ). get_or l (8 * k + 4 * 0 + place) 0 + get_or l (8 * k + 4 * 1 + place) 0) made
        ∙ ap₂ ◌+◌ (summed_entry (byte_at s) n m first k place 0 within (omega arith) sums l) (summed_entry (byte_at s) n m first k place 1 within (omega arith) sums l)
        ∙ every_second_lem (byte_at s place) (start n m (first + k)) (pixels_of n m (first + k))

    pub all_opaque : sum (alpha_sum sums' place) 0 (block_columns m first) ≡ 255 * (start n m (first + block_columns m first) - start n m first)
        → (x : ℕ) → start n m first ≤ x → x < start n m (first + block_columns m first) → byte_at s place x ≡ 255
    all_opaque e x l u =
        sum_full (byte_at s place) (start n m first) (start n m (first + block_columns m first) - start n m first) (byte_byte s bytes place)
        (sym (columns_sum (byte_at s place) n m first (block_columns m first) pos)
        ∙ sym (sum_cong (alpha_sum sums' place) (λ k. sum (byte_at s place) (start n m (first + k)) (pixels_of n m (first + k))) 0 (block_columns m first) (λ k _ w. alpha_column k (omega arith)))
        ∙ e)
        x l (omega arith)

    pub opaque_summed : sum (alpha_sum sums' place) 0 (block_columns m first) ≡ 255 * (start n m (first + block_columns m first) - start n m first)
        → sums' ≡ summed (toned_at s place) n m first sums
    opaque_summed e = made ∙ summed_cong (byte_at s) (toned_at s place) sums (λ k x l u. sym (toned_at_opaque s bytes place k x (all_opaque e x l u)))

-- ---- the alphas added up, so far those of k columns
pub record Adding (sums : List ℕ) (place count total k : ℕ) : Type 0 where
  pub so_far : k ≤ count
  pub total_is : total ≡ sum (alpha_sum sums place) 0 k
  pub most : total ≤ 131070 * k

module _ (sums : List ℕ) (place count : ℕ) where
  pub adding_first : Adding sums place count 0 0
  adding_first = record { so_far = omega arith; total_is = sym (sum_zero (alpha_sum sums place) 0); most = omega arith }

  module _ {total k : ℕ} (v : Adding sums place count total k) where
    pub adding_turn : (a b : ℕ) → k < count → a ≡ get_or sums (8 * k + place) 0 → b ≡ get_or sums (8 * k + place + 4) 0 → a ≤ 65535 → b ≤ 65535
        → Adding sums place count (total + a + b) (k + 1)
    unfolding alpha_sum
    adding_turn a b l e f ha hb = record {
      so_far = omega arith;
      total_is = rw (add-one k) (omega (arith, e, f, v.total_is, sum_suc (λ i. get_or sums (8 * i + place) 0 + get_or sums (8 * i + place + 4) 0) 0 k, here));
      most = omega (arith, v.most);
    }
      where
        here : get_or sums (8 * (0 + k) + place) 0 + get_or sums (8 * (0 + k) + place + 4) 0 ≡ get_or sums (8 * k + place) 0 + get_or sums (8 * k + place + 4) 0
        here = ap (λ (i : ℕ). get_or sums (8 * i + place) 0 + get_or sums (8 * i + place + 4) 0) (zero-add k)

    pub adding_done : count ≤ k → total ≡ sum (alpha_sum sums place) 0 count
    adding_done l = v.total_is ∙ ap (sum (alpha_sum sums place) 0) (let e : k ≡ count = omega (arith, v.so_far) in e)

-- ---- the loop: what stands after the block's sums stays

-- bytes as they stand are tried once
pub turn_less : (plain : Bool) → plain ≡ true → 0 < cond plain 1 0
turn_less true e = omega arith
turn_less false e = absurd (true≢false (sym e))

module _ (layout : PixelLayout) (n m first : ℕ) (s : List ℕ) (some : block_fits n m first (length s) ≡ true) where
  pub seen_is : gathered_pixels n m first (length s) ≡ start n m (first + block_columns m first) - start n m first
  unfolding gathered_pixels
  seen_is = simp some

  pub seen_small : gathered_pixels n m first (length s) ≤ 16384
  seen_small = omega (arith, seen_is, block_end (block_of n m first (length s) some).0, (block_of n m first (length s) some).0.n_small)

  module _ (sums₀ sums : List ℕ) {sums' : List ℕ} (tail : drop (8 * block_columns m first) sums ≡ drop (8 * block_columns m first) sums₀) where
    gathered_is : (plain : Bool) → sums' ≡ gathered_sums layout plain n m first s sums → sums' ≡ summed (read_at plain s (places_of layout).a) n m first sums₀
    unfolding gathered_sums
    gathered_is plain e = e ∙ simp some (rw tail)

    pub tail_kept : (plain : Bool) → sums' ≡ gathered_sums layout plain n m first s sums → drop (8 * block_columns m first) sums' ≡ drop (8 * block_columns m first) sums₀
    tail_kept plain e =
        ap (drop (8 * block_columns m first)) (gathered_is plain e)
        ∙ drop_table (entry_of (read_at plain s (places_of layout).a) n m first) (8 * block_columns m first) (drop (8 * block_columns m first) sums₀)

    pub toned_done : {plain : Bool} → plain ≡ false → sums' ≡ gathered_sums layout plain n m first s sums → sums' ≡ block_sums layout n m first s sums₀
    toned_done {plain} q e =
        let by-false : sums' ≡ gathered_sums layout false n m first s sums = rw q at e in
        gathered_is false by-false ∙ sym (block_written layout n m first s sums₀ some)

    pub opaque_done : Bytes s → {plain : Bool} {place count total seen : ℕ} → plain ≡ true → place ≡ (places_of layout).a → place < 4 → count ≡ block_columns m first
        → seen ≡ gathered_pixels n m first (length s) → total ≡ sum (alpha_sum sums' place) 0 count → total ≡ 255 * seen
        → sums' ≡ gathered_sums layout plain n m first s sums → sums' ≡ block_sums layout n m first s sums₀
    opaque_done bytes {plain} {place} {count} {total} {seen} q place_is within count_is seen_of total_is full e =
        let by-true : sums' ≡ gathered_sums layout true n m first s sums = rw q at e in
        let all : sum (alpha_sum sums' place) 0 (block_columns m first) ≡ 255 * (start n m (first + block_columns m first) - start n m first) =
        ap (sum (alpha_sum sums' place) 0) (sym count_is) ∙ sym total_is ∙ full ∙ ap (λ (z : ℕ). 255 * z) (seen_of ∙ seen_is) in
        opaque_summed (block_of n m first (length s) some).0 s bytes place within sums₀ sums' (gathered_is true by-true) all
        ∙ ap (λ (z : ℕ). summed (toned_at s z) n m first sums₀) place_is
        ∙ sym (block_written layout n m first s sums₀ some)
