-- The weights of one axis, n steps to m: their totals, where they are 0, and their weighted sum as a loop computes it. Source step i is
-- [i × m, (i + 1) × m) and output step j is [j × n, (j + 1) × n) where the axis shrinks; a tent over two source steps where it grows. Assumes nothing.
use Rattle.std.proofs.Common.{◌≡◌, ℕ, zero, suc, ◌+◌, ◌-◌, ◌*◌, ◌/◌, ◌<◌, ◌≤◌, min, ◌⊎◌, sym, ap, ◌∙◌, ap₂, inl, inr, mul-le-mul_right, mod-lt, add-mul, lt_of_mul-lt-mul_right, eq-or-lt_of_le, zero-add, zero-mul, mul-add, arith, le-leb}
use native.Mathlib.Nat.{le_dest, div-add-mod}
use borrow.Author.Tests.{lt-leb}
use Rattle.arithmetic.specs.Sum.{sum}
use Rattle.arithmetic.specs.Weight.{span, overlap, shrink_weight, distance, grow_weight, weight}
use Rattle.arithmetic.proofs.Orders.{le_or_lt}
use Rattle.arithmetic.proofs.Sums.{sum_suc, sum_zero, sum_one, sum_split, sum_cong, sum_add, sum_scale, sum_none, sum_within}

-- ---- which formula is meant
pub span_shrink : (n m : ℕ) → m ≤ n → span n m ≡ n
unfolding span
span_shrink n m h = simp (le-leb m n h)

pub span_grow : (n m : ℕ) → n < m → span n m ≡ m - 1
unfolding span
span_grow n m h = simp (lt-leb m n h)

pub weight_shrink : (n m j i : ℕ) → m ≤ n → weight n m j i ≡ shrink_weight n m j i
unfolding weight
weight_shrink n m j i h = simp (le-leb m n h)

pub weight_grow : (n m j i : ℕ) → n < m → weight n m j i ≡ grow_weight n m j i
unfolding weight
weight_grow n m j i h = simp (lt-leb m n h)

-- ---- shrinking: the total is n
overlap_step : (x x' y y' : ℕ) → x ≤ x' → y ≤ y' → min x y' - y + overlap x x' y y' ≡ min x' y' - y
overlap_step x x' y y' h k = omega arith

steps : (m y y' k : ℕ) → y ≤ y' → sum (λ i. overlap (i * m) (suc i * m) y y') 0 k ≡ min (k * m) y' - y
steps m y y' zero h = sum_zero (λ i. overlap (i * m) (suc i * m) y y') 0 ∙ (omega arith)
steps m y y' (suc k) h =
    sum_suc (λ i. overlap (i * m) (suc i * m) y y') 0 k
    ∙ rw (zero-add k, steps m y y' k h) (overlap_step (k * m) (suc k * m) y y' (omega arith) h)

pub shrink_total : (n m j : ℕ) → j < m → sum (shrink_weight n m j) 0 n ≡ n
unfolding shrink_weight
shrink_total n m j h =
    steps m (j * n) (suc j * n) n (omega arith)
    ∙ (let e : suc j * n ≤ n * m = omega (arith, mul-le-mul_right n h) in omega arith)

-- past its step a weight is 0
pub shrink_after : (n m j i : ℕ) → suc j * n ≤ i * m → shrink_weight n m j i ≡ 0
unfolding shrink_weight
shrink_after n m j i h = omega arith

-- ---- shrinking: the weighted sum is what is left of the step before, whole steps, less what goes to the step after

-- what [x, x') has below t
abbrev below : ℕ → ℕ → ℕ → ℕ
below x x' t = min x' t - x

below_cut : (x x' y y' : ℕ) → x ≤ x' → y ≤ y' → overlap x x' y y' + below x x' y ≡ below x x' y'
below_cut x x' y y' h k = omega arith

module _ (p : ℕ → ℕ) (m t : ℕ) where
  term : ℕ → ℕ
  term i = below (i * m) (suc i * m) t * p i

  term_whole : (i : ℕ) → suc i * m ≤ t → term i ≡ m * p i
  unfolding term
  term_whole i h = ap (λ (w : ℕ). w * p i) (let q : below (i * m) (suc i * m) t ≡ m = omega arith in q)

  term_none : (i : ℕ) → t ≤ i * m → term i ≡ 0
  unfolding term
  term_none i h = ap (λ (w : ℕ). w * p i) (let q : below (i * m) (suc i * m) t ≡ 0 = omega arith in q) ∙ zero-mul (p i)

  term_cut : (i : ℕ) → i * m ≤ t → t ≤ suc i * m → term i + (suc i * m - t) * p i ≡ m * p i
  unfolding term
  term_cut i h k =
      sym (add-mul (below (i * m) (suc i * m) t) (suc i * m - t) (p i))
      ∙ ap (λ (w : ℕ). w * p i) (let q : below (i * m) (suc i * m) t + (suc i * m - t) ≡ m = omega arith in q)

  upto : ℕ → ℕ
  upto N = sum term 0 N

-- a step's weighted sum is the difference of two sums from the start
weighted_cut : (p : ℕ → ℕ) (n m j N : ℕ) → sum (λ i. shrink_weight n m j i * p i) 0 N + upto p m (j * n) N ≡ upto p m (suc j * n) N
unfolding shrink_weight upto term
weighted_cut p n m j N =
    sym (sum_add (λ i. overlap (i * m) (suc i * m) (j * n) (suc j * n) * p i) (λ i. below (i * m) (suc i * m) (j * n) * p i) 0 N)
    ∙ sum_cong _ _ 0 N (λ i l u. sym (add-mul (overlap (i * m) (suc i * m) (j * n) (suc j * n)) (below (i * m) (suc i * m) (j * n)) (p i))
    ∙ ap (λ (t : ℕ). t * p i) (below_cut (i * m) (suc i * m) (j * n) (suc j * n) (omega arith) (omega arith)))

-- a sum from the start to t is m times the whole steps that reach t, less what the last has beyond t
upto_ceil : (p : ℕ → ℕ) (m t b N : ℕ) → b ≤ N → t ≤ b * m → b * m < t + m → upto p m t N + (b * m - t) * p (b - 1) ≡ m * sum p 0 b
unfolding upto term
upto_ceil p m t zero N h l u =
    let q : 0 * m - t ≡ 0 = omega arith in
    let z : sum (term p m t) 0 N ≡ 0 = sum_none (term p m t) 0 N (λ i g k. term_none p m t i (omega arith)) in
    omega (arith, z, ap (λ (w : ℕ). w * p 0) q, ap (λ (w : ℕ). m * w) (sum_zero p 0))
upto_ceil p m t (suc c) N h l u =
    let (r, e) = le_dest h in
    let f : ℕ → ℕ = term p m t in
    let whole : sum f 0 c ≡ m * sum p 0 c =
    sum_cong f (λ i. m * p i) 0 c (λ i g k. term_whole p m t i (omega (arith, mul-le-mul_right m k))) ∙ sum_scale m p 0 c in
    let none : sum f (suc c) r ≡ 0 =
    sum_none f (suc c) r (λ i g k. term_none p m t i (omega (arith, mul-le-mul_right m g))) in
    let cut : f c + (suc c * m - t) * p c ≡ m * p c = term_cut p m t c (omega arith) l in
    let all : sum f 0 N ≡ sum f 0 c + f c + 0 =
    ap (sum f 0) (sym e) ∙ sum_split f 0 (suc c) r
    ∙ ap₂ ◌+◌ (sum_suc f 0 c ∙ ap (λ (w : ℕ). sum f 0 c + f w) (zero-add c)) (ap (λ (w : ℕ). sum f w r) (zero-add (suc c)) ∙ none) in
    let right : m * sum p 0 (suc c) ≡ m * (sum p 0 c + p c) =
    ap (λ (w : ℕ). m * w) (sum_suc p 0 c ∙ ap (λ (w : ℕ). sum p 0 c + p w) (zero-add c)) in
    let at : (suc c * m - t) * p (suc c - 1) ≡ (suc c * m - t) * p c = ap (λ (w : ℕ). (suc c * m - t) * p w) (omega arith) in
    rw (at, right, all, whole) (let q : m * sum p 0 c + f c + 0 + (suc c * m - t) * p c ≡ m * (sum p 0 c + p c) = omega (arith, cut) in q)

-- b steps are read before output step j, b' after it; the last of either lies beyond by b × m - j × n, b' × m - (j + 1) × n
module _ (p : ℕ → ℕ) (n m j b b' N : ℕ) (order : b ≤ b') (inside : b' ≤ N) (l : j * n ≤ b * m) (u : b * m < j * n + m) (l' : suc j * n ≤ b' * m) (u' : b' * m < suc j * n + m) where
  pub shrink_sum : sum (λ i. shrink_weight n m j i * p i) 0 N + (b' * m - suc j * n) * p (b' - 1) ≡ (b * m - j * n) * p (b - 1) + m * sum p b (b' - b)
  shrink_sum =
      let start = upto_ceil p m (j * n) b N (omega arith) l u in
      let end = upto_ceil p m (suc j * n) b' N inside l' u' in
      let whole : sum p 0 b' ≡ sum p 0 b + sum p b (b' - b) =
      ap (sum p 0) (let q : b' ≡ b + (b' - b) = omega arith in q) ∙ sum_split p 0 b (b' - b)
      ∙ ap (λ (w : ℕ). sum p 0 b + sum p w (b' - b)) (zero-add b) in
      gather _ _ _ (m * sum p 0 b) (m * sum p b (b' - b)) _ _ (weighted_cut p n m j N) start (end ∙ ap (λ (w : ℕ). m * w) whole ∙ mul-add m (sum p 0 b) (sum p b (b' - b)))
    where
      gather : (w x y s t d e : ℕ) → w + x ≡ y → x + d ≡ s → y + e ≡ s + t → w + e ≡ d + t
      gather w x y s t d e f g h = omega arith

-- ---- growing: with j × (n-1) = i0 × (m-1) + e, step i0 weighs (m-1) - e and step i0 + 1 weighs e
module _ (n m j i0 e : ℕ) (at : j * (n - 1) ≡ i0 * (m - 1) + e) (small : e < m - 1) where
  pub grow_left : grow_weight n m j i0 ≡ (m - 1) - e
  unfolding grow_weight
  grow_left = rw at (omega arith)

  pub grow_right : grow_weight n m j (suc i0) ≡ e
  unfolding grow_weight
  grow_right = rw at (let q : suc i0 * (m - 1) ≡ i0 * (m - 1) + (m - 1) = omega arith in rw q (omega arith))

  pub grow_before : (i : ℕ) → i < i0 → grow_weight n m j i ≡ 0
  unfolding grow_weight
  grow_before i h =
      let q : suc i * (m - 1) ≤ i0 * (m - 1) = mul-le-mul_right (m - 1) h in
      rw at (far (i * (m - 1)) (omega arith))
    where
      far : (y : ℕ) → y + (m - 1) ≤ i0 * (m - 1) → (m - 1) - distance (i0 * (m - 1) + e) y ≡ 0
      far y h = omega arith

  pub grow_after : (i : ℕ) → suc i0 < i → grow_weight n m j i ≡ 0
  unfolding grow_weight
  grow_after i h =
      let q : suc (suc i0) * (m - 1) ≤ i * (m - 1) = mul-le-mul_right (m - 1) h in
      rw at (far (i * (m - 1)) (omega arith))
    where
      far : (y : ℕ) → i0 * (m - 1) + (m - 1) + (m - 1) ≤ y → (m - 1) - distance (i0 * (m - 1) + e) y ≡ 0
      far y h = omega arith

  -- the weighted sum: two steps, or one where the second would lie past the end
  pub grow_sum : (p : ℕ → ℕ) → suc i0 < n → sum (λ i. grow_weight n m j i * p i) 0 n ≡ ((m - 1) - e) * p i0 + e * p (suc i0)
  grow_sum p h =
      sum_within (λ i. grow_weight n m j i * p i) i0 2 n (omega arith) (λ i l. ap (λ (w : ℕ). w * p i) (grow_before i l) ∙ zero-mul (p i))
      (λ i l u. ap (λ (w : ℕ). w * p i) (grow_after i (omega arith)) ∙ zero-mul (p i))
      ∙ sum_suc (λ i. grow_weight n m j i * p i) i0 1
      ∙ ap₂ ◌+◌ (sum_one (λ i. grow_weight n m j i * p i) i0 ∙ ap (λ (w : ℕ). w * p i0) grow_left)
      (ap (λ (k : ℕ). grow_weight n m j k * p k) (let q : i0 + 1 ≡ suc i0 = omega arith in q) ∙ ap (λ (w : ℕ). w * p (suc i0)) grow_right)

  pub grow_sum_last : (p : ℕ → ℕ) → suc i0 ≡ n → e ≡ 0 → sum (λ i. grow_weight n m j i * p i) 0 n ≡ (m - 1) * p i0
  grow_sum_last p h z =
      sum_within (λ i. grow_weight n m j i * p i) i0 1 n (omega arith) (λ i l. ap (λ (w : ℕ). w * p i) (grow_before i l) ∙ zero-mul (p i))
      (λ i l u. absurd (omega arith))
      ∙ sum_one (λ i. grow_weight n m j i * p i) i0 ∙ ap (λ (w : ℕ). w * p i0) (grow_left ∙ (omega arith))

-- where column j stands between two source steps
pub record Between (n m j i0 e : ℕ) : Type 0 where
  pub at : j * (n - 1) ≡ i0 * (m - 1) + e
  pub small : e < m - 1
  pub inside : i0 < n
  pub last : suc i0 ≡ n → e ≡ 0

pub between : (n m j : ℕ) → 0 < n → n < m → j < m → Between n m j (j * (n - 1) / (m - 1)) (j * (n - 1) - j * (n - 1) / (m - 1) * (m - 1))
between n m j pos grows within = go (j * (n - 1) / (m - 1)) _ (div-add-mod (j * (n - 1)) (m - 1)) (mod-lt (j * (n - 1)) (omega arith))
  where
    go : (q r : ℕ) → (m - 1) * q + r ≡ j * (n - 1) → r < m - 1 → Between n m j q (j * (n - 1) - q * (m - 1))
    go q r s h =
        let most : j * (n - 1) ≤ (m - 1) * (n - 1) = mul-le-mul_right (n - 1) (let w : j ≤ m - 1 = omega arith in w) in
        let c : q * (m - 1) < n * (m - 1) = (let w : n * (m - 1) ≡ (m - 1) * (n - 1) + (m - 1) = top in omega arith) in
        record {
          at = omega arith;
          small = omega arith;
          inside = lt_of_mul-lt-mul_right (m - 1) c;
          last = λ l. (let w : q ≡ n - 1 = omega arith in let v : q * (m - 1) ≡ (n - 1) * (m - 1) = ap (λ (t : ℕ). t * (m - 1)) w in omega arith);
        }
      where
        top : n * (m - 1) ≡ (m - 1) * (n - 1) + (m - 1)
        top = ap (λ (t : ℕ). t * (m - 1)) (let v : n ≡ suc (n - 1) = omega arith in v) ∙ one_more (n - 1) (m - 1)
          where
            one_more : (a b : ℕ) → suc a * b ≡ b * a + b
            one_more a b = omega arith

-- the total is m - 1
pub grow_total : (n m j : ℕ) → 0 < n → n < m → j < m → sum (grow_weight n m j) 0 n ≡ m - 1
grow_total n m j pos grows within =
    let b = between n m j pos grows within in
    sum_cong (grow_weight n m j) (λ i. grow_weight n m j i * 1) 0 n (λ i l u. omega arith) ∙ by b (eq-or-lt_of_le b.inside)
  where
    by : {i0 e : ℕ} → Between n m j i0 e → (suc i0 ≡ n) ⊎ (suc i0 < n) → sum (λ i. grow_weight n m j i * 1) 0 n ≡ m - 1
    by {i0} {e} b (inl h) = grow_sum_last n m j i0 e b.at b.small (λ i. 1) h (b.last h) ∙ (omega arith)
    by {i0} {e} b (inr h) = grow_sum n m j i0 e b.at b.small (λ i. 1) h ∙ (let s : e < m - 1 = b.small in omega arith)

-- ---- either way: an output step's weights add up to the span
pub weight_total : (n m j : ℕ) → 0 < n → j < m → sum (weight n m j) 0 n ≡ span n m
weight_total n m j pos within = by (le_or_lt m n)
  where
    by : (m ≤ n) ⊎ (n < m) → sum (weight n m j) 0 n ≡ span n m
    by (inl h) = sum_cong (weight n m j) (shrink_weight n m j) 0 n (λ i l u. weight_shrink n m j i h) ∙ shrink_total n m j within ∙ sym (span_shrink n m h)
    by (inr h) = sum_cong (weight n m j) (grow_weight n m j) 0 n (λ i l u. weight_grow n m j i h) ∙ grow_total n m j pos h within ∙ sym (span_grow n m h)
