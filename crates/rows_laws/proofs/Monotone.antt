-- Lighter in, no darker out (MATHEMATICS 6): the value of a column and the scaled byte are monotone in the pixels. Why: MULT, FLOOR and the sums are; a
-- column's last pixel counts m - r times, with r below m; f, which comes off, rises by no more than the newest value, which is new in every row; and
-- under the premise nothing wraps. Assumes nothing.
use Prim.Native.Nat.{ℕ, zero, suc, ◌+◌, ◌*◌, ◌-◌, ◌%◌, ◌^◌, ◌≤◌, ◌<◌}
use mathlib.Core.Path.{◌≡◌, refl, sym, ◌∙◌, ap}
use mathlib.Core.Bool.{Bool, true, false, cond}
use mathlib.Core.Logic.{◌⊎◌, inl, inr}
use native.Mathlib.Omega.{arith}
use native.Mathlib.Nat.{mul-le-mul_left, mul-le-mul_right, le_refl, le_of_lt, le_dest}
use lib.Dec.{eqb}
use borrow.Author.Tests.{eqb-true, eqb-false, ne_eqb}
use Rattle.arithmetic.specs.Word.{wrap_sub, wrap_mul}
use Rattle.arithmetic.specs.FixedPoint.{mult, frac}
use Rattle.arithmetic.specs.Sum.{sum}
use Rattle.arithmetic.specs.Weight.{span, grow_weight}
use Rattle.arithmetic.proofs.Orders.{le_or_lt}
use Rattle.arithmetic.proofs.Products.{cross}
use Rattle.arithmetic.proofs.Sums.{sum_suc, sum_one, sum_mono}
use Rattle.arithmetic.proofs.FixedPoints.{mult_mono, floor_mono, left_mono}
use Rattle.rows_schedule.specs.Schedule.{needed, since}
use Rattle.rows_schedule.proofs.Needed.{needed_le, needed_equal, since_rise}
use Rattle.rows.specs.Column.{start, over, last, column_sum, carry, shrink_value, grow_value, value}
use Rattle.rows.specs.Output.{clamp, rest_down, share, ratio, byte_down, rest_up, mixed, blend, byte_up}
use Rattle.rows_laws.specs.Mean.{sum_bound, Premise}
use Rattle.rows.specs.Closed.{newest, share_before, first_half, scaled_byte, scaled}
use Rattle.rows.proofs.Columns.{value_shrink, value_grow, over_small}
use Rattle.rows.proofs.Outputs.{share_is}
use Rattle.rows_laws.proofs.Columns.{start_step, start_within, slack_small, value_range_511}
use Rattle.rows_laws.proofs.HeightShrinks.{share_le, whole, whole_fits, scaled_down, first_exact, byte_whole, byte_part, ratio_whole}
use Rattle.rows_laws.proofs.HeightGrows.{scaled_up}

-- ---- the value of a column

-- the first carry is 0; the others are monotone since MULT is
carry_mono : (p p' : ℕ → ℕ) (n m j : ℕ) → 0 < m → m ≤ n → j < m → ((i : ℕ) → i < n → p i ≤ p' i) → carry p n m j ≤ carry p' n m j
unfolding carry last
carry_mono p p' n m zero some shrinks within le = le_refl 0
carry_mono p p' n m (suc j) some shrinks within le =
    let inside = start_within n m j (omega arith) in
    mult_mono (mul-le-mul_right (over n m j) (le (start n m (suc j) - 1) (omega arith))) (le_refl (frac 1 m))

-- (c + s + l) × m - l × r is (c + s) × m + l × (m - r)
left_over_mono : (c c' s s' l l' m r : ℕ) → r ≤ m → c ≤ c' → s ≤ s' → l ≤ l' → (c + (s + l)) * m - l * r ≤ (c' + (s' + l')) * m - l' * r
left_over_mono c c' s s' l l' m r small hc hs hl =
    omega (arith, mul-le-mul_right m hc, mul-le-mul_right m hs, cross hl small)

shrink_mono : (p p' : ℕ → ℕ) (n m j : ℕ) → 0 < m → m ≤ n → j < m → ((i : ℕ) → i < n → p i ≤ p' i) → shrink_value p n m j ≤ shrink_value p' n m j
unfolding shrink_value column_sum last
shrink_mono p p' n m j some shrinks within le =
    let (k, e) = le_dest (start_step n m j some shrinks) in
    go k (start n m j) (start n m (suc j)) e (start_within n m j within)
  where
    go : (k a b : ℕ) → suc a + k ≡ b → b ≤ n → (carry p n m j + sum p a (b - a)) * m - p (b - 1) * over n m j ≤ (carry p' n m j + sum p' a (b - a)) * m - p' (b - 1) * over n m j
    go k a b e inside =
        let count : b - a ≡ suc k = omega arith in
        let end : b - 1 ≡ a + k = omega arith in
        rw (count, end, sum_suc p a k, sum_suc p' a k)
        (left_over_mono (carry p n m j) (carry p' n m j) (sum p a k) (sum p' a k) (p (a + k)) (p' (a + k)) m (over n m j)
        (le_of_lt (over_small n m j some))
        (carry_mono p p' n m j some shrinks within le)
        (sum_mono p p' a k (λ i l u. le i (omega arith)))
        (le (a + k) (omega arith)))

grow_mono : (p p' : ℕ → ℕ) (n m j : ℕ) → ((i : ℕ) → i < n → p i ≤ p' i) → grow_value p n m j ≤ grow_value p' n m j
unfolding grow_value
grow_mono p p' n m j le =
    sum_mono (λ i. grow_weight n m j i * p i) (λ i. grow_weight n m j i * p' i) 0 n (λ i l u. mul-le-mul_left (grow_weight n m j i) (le i (omega arith)))

pub value_mono : (p p' : ℕ → ℕ) (n m j : ℕ) → j < m → ((i : ℕ) → i < n → p i ≤ p' i) → value p n m j ≤ value p' n m j
value_mono p p' n m j within le = by (le_or_lt m n)
  where
    by : (m ≤ n) ⊎ (n < m) → value p n m j ≤ value p' n m j
    by (inl h) = rw (value_shrink p n m j h, value_shrink p' n m j h) (shrink_mono p p' n m j (omega arith) h within le)
    by (inr h) = rw (value_grow p n m j h, value_grow p' n m j h) (grow_mono p p' n m j le)

-- ---- a row goes out, g ≤ h

-- f is monotone, and so is x - f: f rises by no more than x does
share_mono : (g d : ℕ) {x x' : ℕ} → x ≤ x' → share g d x ≤ share g d x'
share_mono g d {x} {x'} h =
    rw (share_is g d x, share_is g d x') (floor_mono h (le_refl (wrap_mul (frac 1 g) d)))

share_left : (g d : ℕ) {x x' : ℕ} → x ≤ x' → share g d x' + x ≤ share g d x + x'
share_left g d {x} {x'} h =
    rw (share_is g d x, share_is g d x') (left_mono x x' (wrap_mul (frac 1 g) d) (omega arith) h)

-- monotone in what is left of the first half once f comes off; the low byte is, where the first half is a byte
byte_down_mono : (q x x' f f' : ℕ) → f ≤ x → f' ≤ x' → x ≤ x' → x + f' ≤ x' + f → x' < 2 ^ 32 → (q ≡ 2 ^ 32 → x' ≤ 255) → byte_down q x f ≤ byte_down q x' f'
byte_down_mono q x x' f f' low low' le left room byte = by (eqb q (2 ^ 32)) refl
  where
    by : (t : Bool) → eqb q (2 ^ 32) ≡ t → byte_down q x f ≤ byte_down q x' f'
    by true e =
        let one = eqb-true q (2 ^ 32) e in
        let small = byte one in
        rw (byte_whole q x f one, byte_whole q x' f' one) (omega arith)
    by false e =
        let other = eqb-false q (2 ^ 32) e in
        let less : wrap_sub x f ≤ wrap_sub x' f' = omega arith in
        rw (byte_part q x f other, byte_part q x' f' other) (omega (arith, mult_mono less (le_refl q)))

-- equal heights: d = 0, every crop row makes a row, and the first half is the value of that crop row
since_equal : (h y : ℕ) → 0 < h → since h h y ≡ y
unfolding since
since_equal h zero some = refl
since_equal h (suc y) some = needed_equal h y some

before_equal : (h : ℕ) (v : ℕ → ℕ) (y : ℕ) → 0 < h → share_before h h v y ≡ 0
unfolding share_before share
before_equal h v zero some = refl
before_equal h v (suc y) some =
    let none : rest_down h h (needed h h y) y ≡ 0 = ap (λ (u : ℕ). rest_down h h u y) (needed_equal h y some) ∙ omega arith in
    rw none

first_half_equal : (h : ℕ) (v : ℕ → ℕ) (y : ℕ) → 0 < h → share_before h h v y + sum v (since h h y) (needed h h y - since h h y) ≡ v y
first_half_equal h v y some =
    rw (before_equal h v y some, since_equal h y some, needed_equal h y some)
    (let count : suc y - y ≡ 1 = omega arith in rw count (omega (arith, sum_one v y)))

-- f of the row before is monotone
newest_mono : (v v' : ℕ → ℕ) (h u : ℕ) → u ≤ h → ((c : ℕ) → c < h → v c ≤ v' c) → newest v u ≤ newest v' u
unfolding newest
newest_mono v v' h zero inside le = le_refl 0
newest_mono v v' h (suc u) inside le = le u inside

before_mono : (h g : ℕ) (v v' : ℕ → ℕ) (y : ℕ) → 0 < h → y < g → ((c : ℕ) → c < h → v c ≤ v' c) → share_before h g v y ≤ share_before h g v' y
unfolding share_before
before_mono h g v v' zero some within le = le_refl 0
before_mono h g v v' (suc y) some within le =
    share_mono g (rest_down h g (needed h g y) y)
    (newest_mono v v' h (needed h g y) (needed_le h g y some (omega arith)) le)

-- the two numbers that go into the byte: the first half x and f. f takes no more than the newest value brought, and rises by no more than it does
record Rises (x x' f f' : ℕ) : Type 0 where
  low : f ≤ x
  low' : f' ≤ x'
  le : x ≤ x'
  left : x + f' ≤ x' + f

rises_step : (F F' s s' l l' f f' : ℕ) → F ≤ F' → s ≤ s' → l ≤ l' → f ≤ l → f' ≤ l' → f' + l ≤ f + l' → Rises (F + (s + l)) (F' + (s' + l')) f f'
rises_step F F' s s' l l' f f' hF hs hl low low' left = omega arith

module _ (h g : ℕ) (v v' : ℕ → ℕ) (y : ℕ) (shrinks : g ≤ h) (within : y < g) (le : (c : ℕ) → c < h → v c ≤ v' c) where
  first_rises : Rises (whole h g v y) (whole h g v' y) (share_before h g v (suc y)) (share_before h g v' (suc y))
  unfolding share_before newest
  first_rises =
      let (k, e) = le_dest (since_rise h g y (omega arith) shrinks) in
      go k (since h g y) (needed h g y) (share_before h g v y) (share_before h g v' y) (rest_down h g (needed h g y) y) (sym e) (needed_le h g y (omega arith) within) (before_mono h g v v' y (omega arith) within le)
    where
      go : (k a b F F' d : ℕ) → b ≡ suc a + k → b ≤ h → F ≤ F' → Rises (F + sum v a (b - a)) (F' + sum v' a (b - a)) (share g d (newest v b)) (share g d (newest v' b))
      go k a b F F' d e inside before =
          let count : b - a ≡ suc k = omega arith in
          let end : b ≡ suc (a + k) = omega arith in
          let newer : v (a + k) ≤ v' (a + k) = le (a + k) (omega arith) in
          rw (count, sum_suc v a k, sum_suc v' a k, ap (newest v) end, ap (newest v') end)
          (rises_step F F' (sum v a k) (sum v' a k) (v (a + k)) (v' (a + k)) (share g d (v (a + k))) (share g d (v' (a + k))) before
          (sum_mono v v' a k (λ c l u. le c (omega arith)))
          newer (share_le g d (v (a + k))) (share_le g d (v' (a + k))) (share_left g d newer))

-- the byte of output row y is monotone in the values of the crop rows; of values up to 511 / 2 × span, which is 255 for span 1
module _ (sp h g : ℕ) (v v' : ℕ → ℕ) (y : ℕ) (pos : 0 < sp) (shrinks : g ≤ h) (small : g ≤ 16384) (within : y < g) (premise : sp * h ≤ sum_bound * g) (le : (c : ℕ) → c < h → v c ≤ v' c) (most : (c : ℕ) → c < h → 2 * v' c ≤ 511 * sp) where
  -- q is 2^32 for span 1 and equal heights
  byte_where_whole : ratio sp h g ≡ 2 ^ 32 → whole h g v' y ≤ 255
  byte_where_whole e =
      let (one, same) = ratio_whole sp h g pos (omega arith) shrinks e in
      rw same (rw (first_half_equal h v' y (omega arith)) (omega (arith, most y (omega arith))))

  pub byte_mono_down : scaled_byte sp h g v y ≤ scaled_byte sp h g v' y
  byte_mono_down =
      let r = first_rises h g v v' y shrinks within le in
      let fits : whole h g v' y ≤ 2 ^ 31 = whole_fits h g y v' sp (omega arith) shrinks within small (λ c l. omega (arith, most c l)) premise in
      rw (scaled_down sp h g v y shrinks, scaled_down sp h g v' y shrinks, first_exact h g y v (omega (arith, r.le)), first_exact h g y v' (omega arith))
      (byte_down_mono (ratio sp h g) (whole h g v y) (whole h g v' y) (share_before h g v (suc y)) (share_before h g v' (suc y)) r.low r.low' r.le r.left (omega arith) byte_where_whole)

-- ---- a row goes out, g > h

-- with weights that add up to 2^32
pub blend_mono : (g d : ℕ) {x x' o o' : ℕ} → x ≤ x' → o ≤ o' → blend g d x o ≤ blend g d x' o'
unfolding blend mixed
blend_mono g zero hx ho = hx
blend_mono g (suc d) {x} {x'} {o} {o'} hx ho =
    rw (ne_eqb (suc d) 0 (λ e. omega arith))
    (omega (arith, mul-le-mul_left (2 ^ 32 - frac (suc d) (g - 1)) hx, mul-le-mul_left (frac (suc d) (g - 1)) ho))

pub byte_up_mono : (sp : ℕ) {x x' : ℕ} → x ≤ x' → byte_up sp x ≤ byte_up sp x'
unfolding byte_up
byte_up_mono sp {x} {x'} h = by (eqb sp 1)
  where
    by : (one : Bool) → clamp (cond one x (mult x (frac 1 sp))) ≤ clamp (cond one x' (mult x' (frac 1 sp)))
    by true = omega arith
    by false = omega (arith, mult_mono h (le_refl (frac 1 sp)))

pub byte_mono_up : (sp h g : ℕ) (v v' : ℕ → ℕ) (y : ℕ) → 0 < h → h < g → y < g → ((c : ℕ) → c < h → v c ≤ v' c) → scaled_byte sp h g v y ≤ scaled_byte sp h g v' y
byte_mono_up sp h g v v' y some grows within le =
    let inside = needed_le h g y some within in
    rw (scaled_up sp h g v y grows, scaled_up sp h g v' y grows)
    (byte_up_mono sp
    (blend_mono g (rest_up h g (needed h g y) y)
    (newest_mono v v' h (needed h g y) inside le)
    (newest_mono v v' h (needed h g y - 1) (omega arith) le)))

-- ---- joined

-- lighter in, no darker out. The premise is the distance's
pub scaled_mono : (n m h g : ℕ) (p p' : ℕ → ℕ → ℕ) (j y : ℕ) → 0 < n → m ≤ 16384 → 0 < h → g ≤ 16384 → j < m → y < g → Premise (span n m) h g
    → ((c i : ℕ) → c < h → i < n → p c i ≤ p' c i) → ((c i : ℕ) → c < h → i < n → p' c i ≤ 255) → scaled n m h g p j y ≤ scaled n m h g p' j y
unfolding scaled
scaled_mono n m h g p p' j y wide small high low column row premise le bytes = by (le_or_lt g h)
  where
    v : ℕ → ℕ
    v c = value (p c) n m j

    v' : ℕ → ℕ
    v' c = value (p' c) n m j

    rises : (c : ℕ) → c < h → v c ≤ v' c
    rises c l = value_mono (p c) (p' c) n m j column (λ i u. le c i l u)

    most : (c : ℕ) → c < h → 2 * v' c ≤ 511 * span n m
    most c l = value_range_511 (p' c) n m j wide small column (λ i u. bytes c i l u)

    by : (g ≤ h) ⊎ (h < g) → scaled_byte (span n m) h g v y ≤ scaled_byte (span n m) h g v' y
    by (inl s) = byte_mono_down (span n m) h g v v' y (omega (arith, slack_small n m wide)) s low row (premise s) rises most
    by (inr s) = byte_mono_up (span n m) h g v v' y high s row rises

-- ---- it is a byte, whatever the sizes
pub byte_down_byte : (q first f : ℕ) → byte_down q first f ≤ 255
unfolding byte_down
byte_down_byte q first f = by (eqb q (2 ^ 32))
  where
    by : (t : Bool) → cond t (first % 256) (clamp (mult (wrap_sub first f) q)) ≤ 255
    by true = omega arith
    by false = omega arith

pub byte_up_byte : (sp x : ℕ) → byte_up sp x ≤ 255
unfolding byte_up
byte_up_byte sp x = omega arith

pub scaled_byte_lem : (n m h g : ℕ) (p : ℕ → ℕ → ℕ) (j y : ℕ) → scaled n m h g p j y ≤ 255
unfolding scaled
scaled_byte_lem n m h g p j y = by (le_or_lt g h)
  where
    v : ℕ → ℕ
    v c = value (p c) n m j

    by : (g ≤ h) ⊎ (h < g) → scaled_byte (span n m) h g v y ≤ 255
    by (inl s) = rw (scaled_down (span n m) h g v y s) (byte_down_byte (ratio (span n m) h g) (first_half h g v y (needed h g y)) (share_before h g v (suc y)))
    by (inr s) = rw (scaled_up (span n m) h g v y s) (byte_up_byte (span n m) (blend g (rest_up h g (needed h g y) y) (newest v (needed h g y)) (newest v (needed h g y - 1))))
