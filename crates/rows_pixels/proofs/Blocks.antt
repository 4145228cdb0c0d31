-- The columns of a row from the sums of their blocks. Assumes nothing.
use Prim.Native.Nat.{ℕ, suc, ◌+◌, ◌-◌, ◌*◌, ◌/◌, ◌%◌, ◌^◌, ◌≤◌, ◌<◌, min}
use mathlib.Core.Path.{◌≡◌, refl, sym, ap, subst, ◌∙◌}
use mathlib.Core.Bool.{true}
use mathlib.Core.List.{List}
use native.Mathlib.Omega.{arith}
use native.Mathlib.Nat.{mul-zero, mul-le-mul_right}
use lib.ListN.{length, get_or}
use Rattle.arithmetic.specs.FixedPoint.{mult, frac}
use Rattle.arithmetic.specs.Sum.{sum}
use Rattle.arithmetic.specs.Word.{wrap_add, wrap_sub, wrap_mul}
use Rattle.pixels_layout.specs.declared.PixelLayout.{PixelLayout}
use Rattle.pixels_layout.specs.declared.PixelLayout.TheVariants.{Rgba8, Argb8, Bgra8}
use Rattle.pixels_layout.specs.declared.Places.{Places}
use Rattle.pixels_layout.specs.Layout.{places_of}
use Rattle.rows.specs.declared.Quad.{Quad}
use Rattle.rows.specs.Column.{column_sum}
use Rattle.rows.specs.Tones.{toned_at}
use Rattle.rows.specs.Inner.Import.{at, Four, stored, RowAsks}
use Rattle.rows.specs.Inner.NextColumn.{NextIs}
use Rattle.rows.proofs.Columns.{starts, ends}
use Rattle.rows.proofs.Lanes.{each, both}
use Rattle.rows_gathering.specs.Gathered.{block_fits}
use Rattle.rows_gathering.proofs.Blocks.{block_sides, block_good}
use Rattle.rows_summing.specs.Sums.{block_sums}
use Rattle.rows_summing.proofs.Blocks.{block_column}
use Rattle.rows_pixels.specs.Inner.{Apart, PairAsks, Filled, Ready, FillAsks, BlockAsks, InLanes, EndAsks, end_value, end_carry}
use Rattle.arithmetic.proofs.Quotients.{div_high}
use Rattle.arithmetic.proofs.Sums.{sum_most}
use Rattle.rows.proofs.NextColumn.{next_even}
use Rattle.rows.proofs.Tones.{toned_at_byte}
use Rattle.rows_pixels.proofs.Bytes.{ended_lanes}
use Rattle.rows_pixels.proofs.Standing.{Standing, standing_first, standing_next, standing_end, inside, standing_more}

-- ---- the alpha of a layout has a place of its own
pub apart_of : (layout : PixelLayout) (p : Places) → p ≡ places_of layout → Apart p
apart_of Rgba8 p e = rw e (record { blue = λ q. omega arith; green = λ q. omega arith; red = λ q. omega arith })
apart_of Argb8 p e = rw e (record { blue = λ q. omega arith; green = λ q. omega arith; red = λ q. omega arith })
apart_of Bgra8 p e = rw e (record { blue = λ q. omega arith; green = λ q. omega arith; red = λ q. omega arith })

-- ---- the block that a column is in
pub ready_first : (s sums : List ℕ) (place n m : ℕ) → Ready s place n m 0 sums
ready_first s sums place n m l = absurd (omega arith)

pub ready_next : {s sums : List ℕ} {place n m : ℕ} (j : ℕ) → Filled s place n m (j - j % 32) sums → Ready s place n m (j + 1) sums
ready_next j f l =
    let same : (j + 1) - (j + 1) % 32 ≡ j - j % 32 = omega arith in
    rw same f

-- what `sum_block` leaves where column j begins a block
pub filled_by_lem : (layout : PixelLayout) {s : List ℕ} {n m j : ℕ} (sums : List ℕ) {sums' : List ℕ} → FillAsks s n m j → j % 32 ≡ 0 → sums' ≡ block_sums layout n m j s sums
    → Filled s (places_of layout).a n m (j - j % 32) sums'
filled_by_lem layout {s} {n} {m} {j} sums {sums'} a e is =
    let first : j - j % 32 ≡ j = omega arith in
    let fits = block_good n m j (length s) (block_sides a.shrinks a.n_small a.few a.below) a.whole in
    rw first (record { column = λ k l. record { l0 = part k l fits 0 (omega arith); l1 = part k l fits 1 (omega arith); l2 = part k l fits 2 (omega arith); l3 = part k l fits 3 (omega arith) } })
  where
    part : (k : ℕ) → k < min 32 (m - j) → block_fits n m j (length s) ≡ true → (i : ℕ) → i < 4
        → get_or sums' (8 * k + i) 0 + get_or sums' (8 * k + i + 4) 0 ≡ column_sum (toned_at s (places_of layout).a i) n m (j + k)
    part k l fits i l' =
        let at : 8 * k + i + 4 ≡ 8 * k + 4 + i = omega arith in
        rw (at, is) (block_column layout n m j s sums fits k i l l')

module _ {s sums : List ℕ} {place n m : ℕ} (j : ℕ) (f : Filled s place n m (j - j % 32) sums) (below : j < m) where
  pub filled_column : {b : Quad} → Four (λ i. at b i ≡ get_or sums (8 * (j % 32) + i) 0 + get_or sums (8 * (j % 32) + i + 4) 0)
      → Four (λ i. at b i ≡ column_sum (toned_at s place i) n m j)
  filled_column {b} e =
      let here : j - j % 32 + j % 32 ≡ j = omega arith in
      let column : Four (λ i. get_or sums (8 * (j % 32) + i) 0 + get_or sums (8 * (j % 32) + i + 4) 0 ≡ column_sum (toned_at s place i) n m (j - j % 32 + j % 32)) =
      f.column (j % 32) (omega arith) in
      both (λ i q c. q ∙ c ∙ ap (column_sum (toned_at s place i) n m) here) e column

-- ---- by the places that a layout told
module _ (layout : PixelLayout) {p : Places} (e : p ≡ places_of layout) where
  pub row_in : {s half : List ℕ} {n m : ℕ} → RowAsks s half n m (places_of layout) → RowAsks s half n m p
  row_in a = rw e a

  pub place_is : {place : ℕ} → place ≡ (places_of layout).a → place ≡ p.a
  place_is is = is ∙ ap (λ (q : Places). q.a) (sym e)

  -- what is ready for the places is so for the alpha's place of the layout; nothing needs it where a loop speaks of the layout itself
  pub ready_in : {s sums : List ℕ} {n m : ℕ} (j : ℕ) → Ready s p.a n m j sums → Ready s (places_of layout).a n m j sums
  ready_in {s} {sums} {n} {m} j r = subst (λ (q : Places). Ready s q.a n m j sums) e r

  pub filled_out : {s sums : List ℕ} {n m first : ℕ} → Filled s (places_of layout).a n m first sums → Filled s p.a n m first sums
  filled_out f = rw e f

-- ---- the pixels of a column, from where it stands
module _ {s half₀ half : List ℕ} {n m : ℕ} {p : Places} {carry : Quad} {x over j x' over' : ℕ} (v : Standing s half₀ n m p half carry x over j)
    (w : NextIs n m x over x x' over') where
  pixels : (i : ℕ) → column_sum (toned_at s p.a i) n m j ≡ sum (toned_at s p.a i) x (x' - x)
  unfolding column_sum
  pixels i =
      let from = starts (toned_at s p.a i) n m j x x' over over' v.over_small w.over_small v.made w.made in
      let to = ends (toned_at s p.a i) n m j x x' over over' v.over_small w.over_small v.made w.made in
      rw (from, to) refl

  small : (i : ℕ) → RowAsks s half₀ n m p → x' ≤ n → column_sum (toned_at s p.a i) n m j < 2 ^ 32
  small i a inside =
      let most = sum_most (toned_at s p.a i) 255 x (x' - x) (λ y _ _. toned_at_byte s a.bytes p.a i y) in
      omega (arith, pixels i, most, inside, a.n_small)

  -- the two halves of a column make a number of 32 bits
  pub column_pairs : {sums : List ℕ} → RowAsks s half₀ n m p → x' ≤ n → Filled s p.a n m (j - j % 32) sums → j < m → Four (λ i. PairAsks sums (8 * (j % 32) + i))
  column_pairs {sums} a inside f below =
      let here : j - j % 32 + j % 32 ≡ j = omega arith in
      let e : Four (λ i. get_or sums (8 * (j % 32) + i) 0 + get_or sums (8 * (j % 32) + i + 4) 0 ≡ column_sum (toned_at s p.a i) n m (j - j % 32 + j % 32)) =
      f.column (j % 32) (omega arith) in
      record {
        l0 = record { inside = omega arith; small = omega (arith, rw here at e.l0, small 0 a inside) };
        l1 = record { inside = omega arith; small = omega (arith, rw here at e.l1, small 1 a inside) };
        l2 = record { inside = omega arith; small = omega (arith, rw here at e.l2, small 2 a inside) };
        l3 = record { inside = omega arith; small = omega (arith, rw here at e.l3, small 3 a inside) };
      }

  pub column_pixels : {b : Quad} → Four (λ i. at b i ≡ column_sum (toned_at s p.a i) n m j) → Four (λ i. at b i ≡ sum (toned_at s p.a i) x (x' - x))
  column_pixels = each (λ i e. e ∙ pixels i)

-- ---- what a row's own tests lead to
pub block_asks : {s half : List ℕ} {n m : ℕ} {p : Places} → RowAsks s half n m p → m ≤ n → n / m < 512 → BlockAsks n m
block_asks {n = n} {m = m} a shrinks l =
    let most : suc (n / m) * m ≤ 512 * m = mul-le-mul_right m l in
    record { shrinks = shrinks; few = omega (arith, most, div_high n m a.m_pos) }

pub fill_asks : {s half₀ : List ℕ} {n m j : ℕ} {p : Places} → RowAsks s half₀ n m p → BlockAsks n m → j < m → FillAsks s n m j
fill_asks a b below = record { shrinks = b.shrinks; n_small = a.n_small; few = b.few; below = below; whole = a.whole; bytes = a.bytes }

-- ---- n is a multiple of m: no pixel is shared, and nothing is carried
abbrev pub nothing : Quad
nothing = record { a = 0; b = 0; c = 0; d = 0 }

pub whole_first : {s half₀ : List ℕ} {n m : ℕ} {p : Places} → RowAsks s half₀ n m p → Standing s half₀ n m p half₀ nothing (n / m * 0) 0 0
whole_first {n = n} {m = m} a = let none : n / m * 0 ≡ 0 = mul-zero (n / m) in rw none (standing_first a (record { l0 = refl; l1 = refl; l2 = refl; l3 = refl }))

module _ {s half₀ half : List ℕ} {n m : ℕ} {p : Places} {j : ℕ} (a : RowAsks s half₀ n m p) (shrinks : m ≤ n) (even : n % m ≡ 0)
    (v : Standing s half₀ n m p half nothing (n / m * j) 0 j) where
  whole_next : NextIs n m (n / m * j) 0 (n / m * j) (n / m * (j + 1)) 0
  whole_next =
      let next : NextIs n m (n / m * j) 0 (n / m * j) (n / m * j + n / m) (0 - n % m) = next_even (standing_next a shrinks v) (omega arith) in
      let to : n / m * j + n / m ≡ n / m * (j + 1) = omega arith in
      let none : 0 - n % m ≡ 0 = omega arith in
      rw (← to) (rw none at next)

  -- a product with nothing taken off is the column's end
  end_is : (b l : ℕ) → b < 2 ^ 32 → wrap_mul b m ≡ wrap_sub (wrap_mul (wrap_add 0 b) m) (wrap_mul l 0)
  end_is b l small =
      let none : wrap_mul l 0 ≡ 0 = ap (λ (t : ℕ). t % 2 ^ 32) (mul-zero l) in
      let all : wrap_add 0 b ≡ b = omega arith in
      rw (none, all) (taken (b * m))
    where
      taken : (t : ℕ) → t % 2 ^ 32 ≡ (t % 2 ^ 32 + 2 ^ 32 - 0) % 2 ^ 32
      taken t = omega arith

  no_carry : (scale l : ℕ) → 0 ≡ mult (wrap_mul l 0) scale
  unfolding mult
  no_carry scale l =
      let none : wrap_mul l 0 ≡ 0 = ap (λ (t : ℕ). t % 2 ^ 32) (mul-zero l) in
      rw none (omega arith)

  pub whole_pairs : {sums : List ℕ} → Filled s p.a n m (j - j % 32) sums → j < m → Four (λ i. PairAsks sums (8 * (j % 32) + i))
  whole_pairs f below = column_pairs v whole_next a (inside a shrinks v whole_next below) f below

  pub whole_end : j < m → EndAsks half j m 0 p
  whole_end below = standing_end a shrinks v whole_next below

  module _ (below : j < m) (b : Quad) (b-is : Four (λ i. at b i ≡ column_sum (toned_at s p.a i) n m j)) where
    last : Quad
    last =
        let x = n / m * (j + 1) - 1 in
        record { a = toned_at s p.a 0 x; b = toned_at s p.a 1 x; c = toned_at s p.a 2 x; d = toned_at s p.a 3 x }

    total : Quad
    total = record { a = wrap_add 0 b.a; b = wrap_add 0 b.b; c = wrap_add 0 b.c; d = wrap_add 0 b.d }

    fits : (i t : ℕ) → t ≡ column_sum (toned_at s p.a i) n m j → t < 2 ^ 32
    fits i t e = omega (arith, small v whole_next i a (inside a shrinks v whole_next below))

    pub whole_more : {bytes lanes : Quad} {half' : List ℕ} → Apart p → Four (λ i. at bytes i ≡ wrap_mul (at b i) m) → InLanes p (at bytes) lanes → half' ≡ stored half j lanes
        → Standing s half₀ n m p half' nothing (n / m * (j + 1)) 0 (j + 1)
    unfolding end_value end_carry last total
    whole_more {bytes} apart bytes-are lanes_are half_is =
        let pixels = column_pixels v whole_next b-is in
        let values : Four (λ i. at bytes i ≡ end_value m 0 total last i) =
        record {
          l0 = bytes-are.l0 ∙ end_is b.a last.a (fits 0 b.a b-is.l0);
          l1 = bytes-are.l1 ∙ end_is b.b last.b (fits 1 b.b b-is.l1);
          l2 = bytes-are.l2 ∙ end_is b.c last.c (fits 2 b.c b-is.l2);
          l3 = bytes-are.l3 ∙ end_is b.d last.d (fits 3 b.d b-is.l3);
        } in
        standing_more a shrinks v whole_next below {scale = frac 1 m} {total = total} {last = last} {sums = b} apart refl
        (record { l0 = refl; l1 = refl; l2 = refl; l3 = refl }) pixels (record { l0 = refl; l1 = refl; l2 = refl; l3 = refl })
        (record { l0 = no_carry (frac 1 m) last.a; l1 = no_carry (frac 1 m) last.b; l2 = no_carry (frac 1 m) last.c; l3 = no_carry (frac 1 m) last.d })
        (ended_lanes half j (end_value m 0 total last) a.places values lanes_are half_is)
