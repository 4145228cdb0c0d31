-- Two pixels a turn: after t turns each of the eight sums is that of t pixels, every second one. They are bytes and at most 256, so no sum wraps. One law
-- serves every way in which a byte is read. Assumes nothing.
use Prim.Native.Nat.{ℕ, suc, ◌+◌, ◌-◌, ◌*◌, ◌/◌, ◌%◌, ◌≤◌, ◌<◌}
use mathlib.Core.Path.{◌≡◌, refl, sym, ap, ap₂, ◌∙◌}
use mathlib.Core.Bool.{Bool, true, false, cond}
use mathlib.Core.List.{List}
use borrow.Author.Tests.{ne_eqb}
use native.Mathlib.Omega.{arith}
use native.Mathlib.Nat.{add-zero, mul-le-mul, lt_of_mul-lt-mul_right, le_of_mul-le-mul_right}
use Rattle.rows.specs.declared.Own.{Own}
use Rattle.rows.specs.Tones.{own_of, own_at, toned, toned_at}
use Rattle.rows.specs.Inner.Import.{Four, oct_at, Eight, byte_at}
use Rattle.rows.proofs.Tones.{toned_zero}
use Rattle.rows.proofs.Lanes.{each, both, three, each8, three8}
use Rattle.rows.specs.declared.Oct.{Oct}
use Rattle.rows_gathering.specs.Gathered.{every_second, read_at}
use Rattle.rows_gathering.specs.Inner.{PixelsAsk, OneIs, ColumnAsks, step_sum}
use Rattle.rows_gathering.proofs.Blocks.{step_zero, step_suc, step_most, second_even, second_odd, second_less}

-- ---- pixels read

-- pixels x and x + 1
pub pair_is : (p : ℕ → ℕ → ℕ) (x : ℕ) (r : Oct) → Four (λ k. oct_at r 0 k ≡ p k x) → Four (λ k. oct_at r 1 k ≡ p k (x + 1)) → Eight (λ h k. oct_at r h k ≡ p k (x + h))
pair_is p x r first second = record { even = each (λ k e. e ∙ ap (p k) (sym (add-zero x))) first; odd = second }

-- the four bytes of a pixel, by its alpha with what is or-ed to it
pub toned_own : (s : List ℕ) (place x : ℕ) (o : Own) (v : ℕ → ℕ) → Four (λ k. own_of o k ≡ own_at place k) → Four (λ k. v k ≡ toned (byte_at s k x) (byte_at s place x) (own_of o k))
    → Four (λ k. v k ≡ toned_at s place k x)
unfolding toned_at
toned_own s place x o v own f = both (λ k e g. g ∙ ap (toned (byte_at s k x) (byte_at s place x)) e) own f

-- the same as they are read, where the alpha is read at the place p
pub read_own : (plain : Bool) (s : List ℕ) (place p x : ℕ) (o : Own) (v : ℕ → ℕ) → Four (λ k. own_of o k ≡ own_at place k) → (plain ≡ false → p ≡ place)
    → Four (λ k. v k ≡ cond plain (byte_at s k x) (toned (byte_at s k x) (byte_at s p x) (own_of o k))) → Four (λ k. v k ≡ read_at plain s place k x)
read_own true s place p x o v own is f = f
read_own false s place p x o v own is f = toned_own s place x o v own (rw (is refl) at f)

-- an alpha that does not stand first stands last
pub own_last : {place : ℕ} → place < 4 → place % 3 ≡ 0 → (place ≡ 0 → ⊥) → 3 ≡ place
own_last a b h = omega arith

-- ---- the loop: x is the next pixel, and `got` counts the turns by m
pub record Pairing (p : ℕ → ℕ → ℕ) (from count m : ℕ) (sums : Oct) (x got : ℕ) : Type 0 where
  pub turns : ℕ
  pub at : x ≡ from + 2 * turns
  pub made : got ≡ (2 * turns + 1) * m
  pub so_far : 2 * turns ≤ count
  pub each_sum : Eight (λ h k. oct_at sums h k ≡ step_sum (p k) from h turns)

module _ (p : ℕ → ℕ → ℕ) {s : List ℕ} {from count m : ℕ} (a : ColumnAsks s from count m) where
  pub pairing_first : {sums : Oct} → Eight (λ h k. oct_at sums h k ≡ 0) → Pairing p from count m sums from m
  pairing_first z = record {
    turns = 0;
    at = omega arith;
    made = omega arith;
    so_far = omega arith;
    each_sum = each8 (λ h k e. e ∙ sym (step_zero (p k) from h)) z;
  }

  pub limit_small : count * m ≤ 8388608
  limit_small = mul-le-mul {n₁ = count} {m₁ = m} {n₂ = 512} {m₂ = 16384} a.few a.m_small

  module _ {sums : Oct} {x got : ℕ} (v : Pairing p from count m sums x got) where
    pub pair_left : got < count * m → 2 * v.turns + 2 ≤ count
    pair_left l = omega (arith, lt_of_mul-lt-mul_right m (let below : (2 * v.turns + 1) * m < count * m = omega (arith, v.made) in below))

    pub pair_asks : got < count * m → PixelsAsk s x 2
    pair_asks l = record {
      whole = omega (arith, pair_left l, v.at, a.pixels.whole);
      small = omega (arith, pair_left l, v.at, a.pixels.small);
    }

    -- one turn: the bytes of pixels x and x + 1 come to the sums
    pub pairing_turn : ((k i : ℕ) → p k i ≤ 255) → {pair sums' : Oct} → got < count * m → Eight (λ h k. oct_at pair h k ≡ p k (x + h))
        → Eight (λ h k. oct_at sums' h k ≡ (oct_at sums h k + oct_at pair h k) % 65536) → Pairing p from count m sums' (x + 2) (got + m + m)
    pairing_turn byte {pair} {sums'} l e f = record {
      turns = suc v.turns;
      at = omega (arith, v.at);
      made = omega (arith, v.made);
      so_far = omega (arith, pair_left l);
      each_sum = three8 (λ h k. one h k (oct_at sums h k) (oct_at pair h k) (oct_at sums' h k)) v.each_sum e f;
    }
      where
        one : (h k y z w : ℕ) → y ≡ step_sum (p k) from h v.turns → z ≡ p k (x + h) → w ≡ (y + z) % 65536 → w ≡ step_sum (p k) from h (suc v.turns)
        one h k y z w y-is z-is w-is =
            let next : p k (x + h) ≡ p k (from + 2 * v.turns + h) = ap (λ (i : ℕ). p k (i + h)) v.at in
            omega (arith, y-is, z-is, w-is, next, step_suc (p k) from h v.turns, step_most (p k) (byte k) from h (suc v.turns), pair_left l, a.few)

    pub pairing_done : count * m ≤ got → Eight (λ h k. oct_at sums h k ≡ step_sum (p k) from h (count / 2))
    pairing_done l =
        let enough : count ≤ 2 * v.turns + 1 = le_of_mul-le-mul_right {k = m} (let le : count * m ≤ (2 * v.turns + 1) * m = omega (arith, v.made) in le) a.m_pos in
        let half : v.turns ≡ count / 2 = omega (arith, v.so_far) in
        each8 (λ h k e. e ∙ ap (step_sum (p k) from h) half) v.each_sum

-- ---- a column: its pairs, and its last pixel where their number is odd
module _ (p : ℕ → ℕ → ℕ) (from count : ℕ) {sums : Oct} (pairs : Eight (λ h k. oct_at sums h k ≡ step_sum (p k) from h (count / 2))) where
  pub column_even : count % 2 ≡ 0 → Eight (λ h k. oct_at sums h k ≡ every_second (p k) from count h)
  column_even e = record {
    even = each (λ k q. q ∙ sym (second_even (p k) from count 0 e (omega arith))) pairs.even;
    odd = each (λ k q. q ∙ sym (second_even (p k) from count 1 e (omega arith))) pairs.odd;
  }

  pub column_odd : ((k i : ℕ) → p k i ≤ 255) → count ≤ 512 → 0 < count % 2 → {one sums' : Oct} → OneIs p (from + count - 1) one
      → Eight (λ h k. oct_at sums' h k ≡ (oct_at sums h k + oct_at one h k) % 65536) → Eight (λ h k. oct_at sums' h k ≡ every_second (p k) from count h)
  column_odd byte few e {one} {sums'} o f = record {
    even = three (λ k. last k (oct_at sums 0 k) (oct_at one 0 k) (oct_at sums' 0 k)) pairs.even o.even f.even;
    odd = three (λ k. none k (oct_at sums 1 k) (oct_at one 1 k) (oct_at sums' 1 k)) pairs.odd o.odd f.odd;
  }
    where
      last : (k y z w : ℕ) → y ≡ step_sum (p k) from 0 (count / 2) → z ≡ p k (from + count - 1) → w ≡ (y + z) % 65536 → w ≡ every_second (p k) from count 0
      last k y z w y-is z-is w-is =
          omega (arith, y-is, z-is, w-is, second_odd (p k) from count e, step_most (p k) (byte k) from 0 (count / 2), byte k (from + count - 1))

      none : (k y z w : ℕ) → y ≡ step_sum (p k) from 1 (count / 2) → z ≡ 0 → w ≡ (y + z) % 65536 → w ≡ every_second (p k) from count 1
      none k y z w y-is z-is w-is =
          omega (arith, y-is, z-is, w-is, second_less (p k) from count e, step_most (p k) (byte k) from 1 (count / 2))

-- ---- nothing is or-ed for the second byte, which is a colour's wherever the alpha stands
pub own_none : (place : ℕ) {o : Own} → place % 3 ≡ 0 → Four (λ k. own_of o k ≡ own_at place k) → o.b ≡ 0
unfolding own_at
own_none place {o} ends own = own.l1 ∙ simp (ne_eqb 1 place (λ e. omega arith))

pub toned_nothing : (c q none r : ℕ) → none ≡ 0 → q ≡ none → r ≡ toned c q none → r ≡ 0
toned_nothing c q none r e f g = g ∙ ap₂ (toned c) (f ∙ e) e ∙ toned_zero c
