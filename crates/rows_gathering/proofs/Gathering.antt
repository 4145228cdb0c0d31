-- Column after column of a block: `to` pixels are used and reach `over` parts past the columns summed, whose sums stand in the array. Assumes nothing.
use Prim.Native.Nat.{ℕ, suc, ◌+◌, ◌-◌, ◌*◌, ◌/◌, ◌%◌, ◌≤◌, ◌<◌}
use mathlib.Core.Path.{◌≡◌, sym, ap, ap₂, ◌∙◌}
use mathlib.Core.List.{List}
use lib.ListN.{length}
use native.Mathlib.Omega.{arith}
use native.Mathlib.Nat.{div-add-mod, mod-lt, lt_of_mul-lt-mul_right, mul-le-mul, mul-le-mul_right}
use Rattle.arithmetic.specs.Quotient.{ceil}
use Rattle.arithmetic.proofs.Stores.{Stored, none_stored, place, store_four}
use Rattle.arithmetic.proofs.Quotients.{ceil_low, ceil_high}
use Rattle.rows.specs.Column.{start}
use Rattle.rows.specs.Inner.Import.{oct_at, Eight}
use Rattle.rows.specs.Inner.NextColumn.{NextAsks, StandsIn, NextIs}
use Rattle.rows.proofs.Columns.{start_unique}
use Rattle.rows.proofs.NextColumn.{stands_in, column_inside}
use Rattle.rows.specs.declared.Oct.{Oct}
use Rattle.rows_gathering.specs.Gathered.{pixels_of, every_second, block_columns, entry_of, summed}
use Rattle.rows_gathering.specs.Inner.{ColumnAsks, stored8, BlockFits, BlockAsks, Begins}
use Rattle.rows_gathering.proofs.Blocks.{entry_is, start_past}

-- ---- where the block begins
module _ {n m first : ℕ} (f : BlockFits n m first) where
  pub begin_small : first * n ≤ 268435456
  begin_small = mul-le-mul {n₁ = first} {m₁ = n} {n₂ = 16384} {m₂ = 16384} (omega (arith, f.inside, f.shrinks, f.n_small)) f.n_small

  pub begin_low : first * n ≤ (first * n + (m - 1)) / m * m
  unfolding ceil
  begin_low = ceil_low (first * n) m (omega (arith, f.inside))

  pub begin_high : (first * n + (m - 1)) / m * m < first * n + m
  unfolding ceil
  begin_high = ceil_high (first * n) m (omega (arith, f.inside))

  pub begin_is : Begins n m first ((first * n + (m - 1)) / m) ((first * n + (m - 1)) / m * m - first * n)
  begin_is = record { made = omega (arith, begin_low); over_small = omega (arith, begin_low, begin_high) }

-- ---- the loop
pub record Gathering (p : ℕ → ℕ → ℕ) (n m first count : ℕ) (sums₀ sums : List ℕ) (to over k : ℕ) : Type 0 where
  pub count_is : count ≡ block_columns m first
  pub so_far : k ≤ count
  pub made : to * m ≡ (first + k) * n + over
  pub over_small : over < m
  pub to_small : to ≤ n
  pub stored : Stored (entry_of p n m first) sums₀ sums (8 * count) (8 * k)

module _ (p : ℕ → ℕ → ℕ) {s : List ℕ} {n m first : ℕ} (a : BlockAsks s n m first) where
  pub gathering_first : {count to over : ℕ} {sums₀ : List ℕ} → count ≡ block_columns m first → length sums₀ ≡ 256 → Begins n m first to over
      → Gathering p n m first count sums₀ sums₀ to over 0
  gathering_first {count} {to} {over} e long b =
      let none : 8 * 0 ≡ 0 = omega arith in
      let from : first + 0 ≡ first = omega arith in
      let le : first + 1 ≤ m = omega (arith, a.fits.inside) in
      let below : to * m < n * m = omega (arith, b.made, b.over_small, a.fits.shrinks, mul-le-mul_right n le) in
      record {
        count_is = e;
        so_far = omega arith;
        made = rw from b.made;
        over_small = b.over_small;
        to_small = omega (arith, lt_of_mul-lt-mul_right m below);
        stored = place (none_stored (entry_of p n m first) (omega arith)) (8 * 0) (sym none);
      }

  module _ {count to over k : ℕ} {sums₀ sums : List ℕ} (v : Gathering p n m first count sums₀ sums to over k) where
    pub next_asks : NextAsks n m (n / m) (n % m) to over
    next_asks = record {
      parts = omega (arith, div-add-mod n m);
      rest_small = mod-lt n (omega (arith, v.over_small));
      over_small = v.over_small;
      shrinks = a.fits.shrinks;
      n_small = a.fits.n_small;
      to_small = v.to_small;
    }

    -- the next column, by what its call says of the sharing's own numbers
    pub next_of : {n' m' from to' over' : ℕ} → n' ≡ n → m' ≡ m → (StandsIn n' m' to over → NextIs n' m' to over from to' over') → NextIs n m to over from to' over'
    next_of e f next = rw (e, f) at next (stands_in next_asks)

    pub gathered_at : start n m (first + k) ≡ to
    gathered_at = start_unique n m (first + k) to over v.over_small v.made

    module _ {from to' over' : ℕ} (w : NextIs n m to over from to' over') (below : k < count) where
      next_made : to' * m ≡ suc (first + k) * n + over'
      next_made = omega (arith, v.made, w.made)

      next_inside : to' ≤ n
      next_inside = column_inside n m (first + k) to' over' (omega (arith, v.count_is)) w.over_small next_made

      pub column_asks : ColumnAsks s from (to' - from) m
      column_asks =
          let most : to' * m < (to + 513) * m = omega (arith, w.made, w.over_small, a.fits.short) in
          record {
            pixels = record {
              whole = omega (arith, w.more, next_inside, a.whole);
              small = omega (arith, w.more, next_inside, a.fits.n_small);
            };
            few = omega (arith, w.goes_on, lt_of_mul-lt-mul_right m most);
            m_pos = omega (arith, v.over_small);
            m_small = omega (arith, a.fits.shrinks, a.fits.n_small);
            bytes = a.bytes;
          }

      -- the eight sums of column k
      entries : {o : Oct} → Eight (λ h i. oct_at o h i ≡ every_second (p i) from (to' - from) h) → (h i : ℕ) → h < 2 → i < 4
          → every_second (p i) from (to' - from) h ≡ entry_of p n m first (8 * k + 4 * h + i)
      unfolding pixels_of
      entries e h i half byte =
          let begins : from ≡ start n m (first + k) = w.goes_on ∙ sym gathered_at in
          let ends : to' ≡ start n m (suc (first + k)) = sym (start_unique n m (suc (first + k)) to' over' w.over_small next_made) in
          ap₂ (λ (x y : ℕ). every_second (p i) x (y - x) h) begins ends
          ∙ sym (entry_is p n m first k i h byte half)

      pub gathering_turn : {o : Oct} {sums' : List ℕ} → Eight (λ h i. oct_at o h i ≡ every_second (p i) from (to' - from) h) → sums' ≡ stored8 sums k o
          → Gathering p n m first count sums₀ sums' to' over' (k + 1)
      gathering_turn {o} {sums'} e put =
          let at : (h i : ℕ) → h < 2 → i < 4 → (y : ℕ) → 8 * k + 4 * h + i ≡ y → every_second (p i) from (to' - from) h ≡ entry_of p n m first y =
          (λ h i half byte y q. entries e h i half byte ∙ ap (entry_of p n m first) q) in
          let four = store_four v.stored (omega arith)
          (e.even.l0 ∙ at 0 0 (omega arith) (omega arith) (8 * k) (omega arith))
          (e.even.l1 ∙ at 0 1 (omega arith) (omega arith) (8 * k + 1) (omega arith))
          (e.even.l2 ∙ at 0 2 (omega arith) (omega arith) (8 * k + 2) (omega arith))
          (e.even.l3 ∙ at 0 3 (omega arith) (omega arith) (8 * k + 3) (omega arith)) in
          let eight = store_four four (omega arith)
          (e.odd.l0 ∙ at 1 0 (omega arith) (omega arith) (8 * k + 4) (omega arith))
          (e.odd.l1 ∙ at 1 1 (omega arith) (omega arith) (8 * k + 4 + 1) (omega arith))
          (e.odd.l2 ∙ at 1 2 (omega arith) (omega arith) (8 * k + 4 + 2) (omega arith))
          (e.odd.l3 ∙ at 1 3 (omega arith) (omega arith) (8 * k + 4 + 3) (omega arith)) in
          let next : suc (first + k) ≡ first + (k + 1) = omega arith in
          record {
            count_is = v.count_is;
            so_far = omega arith;
            made = next_made ∙ ap (λ (j : ℕ). j * n + over') next;
            over_small = w.over_small;
            to_small = next_inside;
            stored = rw put (place eight (8 * (k + 1)) (omega arith));
          }

    pub gathering_done : count ≤ k → sums ≡ summed p n m first sums₀
    gathering_done l =
        let all : k ≡ block_columns m first = omega (arith, v.so_far, v.count_is) in
        (place v.stored (8 * block_columns m first) (ap (λ (c : ℕ). 8 * c) all)).so_far

    -- the pixels used since column `first`
    module _ {x over₀ : ℕ} (b : Begins n m first x over₀) where
      begins : start n m first ≡ x
      begins = start_unique n m first x over₀ b.over_small b.made

      pub gathered_past : x ≤ to
      gathered_past = rw (← begins, ← gathered_at) (start_past n m first k (omega (arith, v.over_small)))

      pub gathered_pixels_lem : count ≤ k → to - x ≡ start n m (first + block_columns m first) - start n m first
      gathered_pixels_lem l =
          let all : k ≡ block_columns m first = omega (arith, v.so_far, v.count_is) in
          rw (← begins, ← gathered_at, all)
