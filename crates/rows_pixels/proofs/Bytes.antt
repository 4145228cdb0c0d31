-- The four bytes of a pixel side by side: pixels summed, and a column's end put into lanes. Assumes nothing.
use Prim.Native.Nat.{ℕ, zero, suc, ◌+◌, ◌-◌, ◌%◌, ◌≤◌, ◌<◌}
use mathlib.Core.Path.{◌≡◌, refl, sym, ap, ◌∙◌}
use mathlib.Core.List.{List, [], ◌∷◌}
use native.Mathlib.Omega.{arith}
use native.Mathlib.Nat.{mod-eq_of_lt}
use lib.ListN.{get_or}
use Rattle.arithmetic.specs.FixedPoint.{mult}
use Rattle.arithmetic.specs.Sum.{sum}
use Rattle.arithmetic.specs.Word.{wrap_add, wrap_sub, wrap_mul}
use Rattle.arithmetic.proofs.Sums.{sum_suc, sum_step, sum_none_yet}
use Rattle.pixels.specs.Sizes.{pixel_lanes}
use Rattle.pixels_layout.specs.declared.Places.{Places}
use Rattle.rows.specs.declared.Quad.{Quad}
use Rattle.rows.specs.Column.{Finished}
use Rattle.rows.specs.Tones.{toned_at}
use Rattle.rows.specs.Inner.Import.{at, Four, stored, PixelAsks, Within}
use Rattle.rows.proofs.Lanes.{each, both, three, four_at}
use Rattle.rows_pixels.specs.Inner.{InLanes, in_lanes, TotalAsks, end_value, end_carry}

-- ---- four numbers as an array
pub four_of : (q : Quad) (k : ℕ) → k < pixel_lanes → get_or (q.a ∷ q.b ∷ q.c ∷ q.d ∷ []) k 0 ≡ at q k
four_of q zero h = refl
four_of q (suc zero) h = refl
four_of q (suc (suc zero)) h = refl
four_of q (suc (suc (suc zero))) h = refl
four_of q (suc (suc (suc (suc k)))) h = absurd (omega arith)

-- ---- a column's total: to what carry and last pixel make, the pixels from `from` on up to pixel x are added
pub record Totalled (s : List ℕ) (from to place : ℕ) (total₀ total : Quad) (x : ℕ) : Type 0 where
  past : from ≤ x
  pub so_far : x < to
  totals : Four (λ k. at total k ≡ wrap_add (at total₀ k) (sum (toned_at s place k) from (x - from)))

pub totalled_first : {s : List ℕ} (place : ℕ) {from to : ℕ} {total : Quad} (carry last : Quad) → TotalAsks s from to
    → Four (λ k. at total k ≡ wrap_add (at carry k) (at last k)) → Totalled s from to place total total from
totalled_first {s} place {from} carry last a e =
    record {
      past = omega arith;
      so_far = a.some;
      totals = each (λ k q. none (at carry k) (at last k) q (sum_none_yet (toned_at s place k) from)) e;
    }
  where
    none : (c l : ℕ) {t u : ℕ} → t ≡ wrap_add c l → u ≡ 0 → t ≡ wrap_add t u
    none c l h g = omega arith

pub totalled_pixel : {s : List ℕ} {from to x : ℕ} → TotalAsks s from to → x < to - 1 → PixelAsks s x
totalled_pixel a l = record { whole = omega (arith, a.whole); small = omega (arith, a.small) }

module _ {s : List ℕ} {from to place x : ℕ} {total₀ total : Quad} (v : Totalled s from to place total₀ total x) where
  lane_more : (k t p t' : ℕ) → t ≡ wrap_add (at total₀ k) (sum (toned_at s place k) from (x - from)) → p ≡ toned_at s place k x → t' ≡ wrap_add t p
      → t' ≡ wrap_add (at total₀ k) (sum (toned_at s place k) from (x + 1 - from))
  lane_more k t p t' = join (at total₀ k) (sum (toned_at s place k) from (x - from)) (toned_at s place k x) (sum_step (toned_at s place k) from x v.past)
    where
      join : (c u q : ℕ) {w t p t' : ℕ} → w ≡ u + q → t ≡ wrap_add c u → p ≡ q → t' ≡ wrap_add t p → t' ≡ wrap_add c w
      join c u q a b d f = omega arith

  pub totalled_more : {pixel total' : Quad} → x < to - 1 → Four (λ k. at pixel k ≡ toned_at s place k x) → Four (λ k. at total' k ≡ wrap_add (at total k) (at pixel k))
      → Totalled s from to place total₀ total' (x + 1)
  totalled_more {pixel} {total'} l p e =
      record { past = omega (arith, v.past); so_far = omega arith; totals = three (λ k. lane_more k (at total k) (at pixel k) (at total' k)) v.totals p e }

  pub totalled_done : (carry last : Quad) → to - 1 ≤ x → Four (λ k. at total₀ k ≡ wrap_add (at carry k) (at last k))
      → Four (λ k. at total k ≡ wrap_add (at carry k) (at last k + sum (toned_at s place k) from (to - 1 - from)))
  totalled_done carry last l e =
      let end : x ≡ to - 1 = omega (arith, v.so_far) in
      both (λ k b t. join (at carry k) (at last k) (sum (toned_at s place k) from (to - 1 - from)) b (t ∙ ap (λ (y : ℕ). wrap_add (at total₀ k) (sum (toned_at s place k) from (y - from))) end)) e v.totals
    where
      join : (c l u : ℕ) {b t : ℕ} → b ≡ wrap_add c l → t ≡ wrap_add b u → t ≡ wrap_add c (l + u)
      join c l u h g = omega arith

-- its last pixel is the last of its pixels
pub total_pixels : (p : ℕ → ℕ) (from to c l t : ℕ) → from < to → l ≡ p (to - 1) → t ≡ wrap_add c (l + sum p from (to - 1 - from)) → t ≡ wrap_add c (sum p from (to - from))
total_pixels p from to c l t some l-is t-is =
    let count : to - from ≡ suc (to - 1 - from) = omega arith in
    let place : from + (to - 1 - from) ≡ to - 1 = omega arith in
    let all : sum p from (to - from) ≡ sum p from (to - 1 - from) + l =
    ap (sum p from) count ∙ sum_suc p from (to - 1 - from) ∙ ap (λ (y : ℕ). sum p from (to - 1 - from) + p y) place ∙ ap (λ (y : ℕ). sum p from (to - 1 - from) + y) (sym l-is) in
    t-is ∙ ap (wrap_add c) (turn l (sum p from (to - 1 - from)) all)
  where
    turn : (a b : ℕ) {w : ℕ} → w ≡ b + a → a + b ≡ w
    turn a b h = omega arith

-- ---- a column's end
module _ (m scale over : ℕ) (total last : Quad) (small : over < 16384) where
  over_is : over % 16384 ≡ over
  over_is = mod-eq_of_lt small

  value_is : (k v c : ℕ) → Finished m scale (over % 16384) (at total k) (at last k) v c → v ≡ end_value m over total last k
  unfolding end_value
  value_is k v c f = f.value_is ∙ ap (λ (o : ℕ). wrap_sub (wrap_mul (at total k) m) (wrap_mul (at last k) o)) over_is

  carry_is : (k v c : ℕ) → Finished m scale (over % 16384) (at total k) (at last k) v c → c ≡ end_carry scale over last k
  unfolding end_carry
  carry_is k v c f = f.carry_is ∙ ap (λ (o : ℕ). mult (wrap_mul (at last k) o) scale) over_is

  pub ended_values : (v c : Quad) → Four (λ k. Finished m scale (over % 16384) (at total k) (at last k) (at v k) (at c k)) → Four (λ k. at v k ≡ end_value m over total last k)
  ended_values v c = each (λ k. value_is k (at v k) (at c k))

  pub ended_carries : (v c : Quad) → Four (λ k. Finished m scale (over % 16384) (at total k) (at last k) (at v k) (at c k)) → Four (λ k. at c k ≡ end_carry scale over last k)
  ended_carries v c = each (λ k. carry_is k (at v k) (at c k))

-- four lanes finished, each by itself
pub finished : {m scale over va ca vb cb vc cc vd cd : ℕ} {total last : Quad} → Finished m scale over total.a last.a va ca → Finished m scale over total.b last.b vb cb
    → Finished m scale over total.c last.c vc cc → Finished m scale over total.d last.d vd cd
    → Four (λ k. Finished m scale over (at total k) (at last k) (at (record { a = va; b = vb; c = vc; d = vd }) k) (at (record { a = ca; b = cb; c = cc; d = cd }) k))
finished a b c d = record { l0 = a; l1 = b; l2 = c; l3 = d }

-- stored as lanes
pub ended_lanes : (half : List ℕ) (j : ℕ) {half' : List ℕ} {p : Places} {bytes lanes : Quad} (f : ℕ → ℕ) → Within p → Four (λ k. at bytes k ≡ f k)
    → InLanes p (at bytes) lanes → half' ≡ stored half j lanes → half' ≡ stored half j (in_lanes p f)
ended_lanes half j {p = p} f w v l e =
    rw (
      ← (l.blue ∙ four_at v p.b w.b_in),
      ← (l.green ∙ four_at v p.g w.g_in),
      ← (l.red ∙ four_at v p.r w.r_in),
      ← (l.alpha ∙ four_at v p.a w.a_in),
    ) e
