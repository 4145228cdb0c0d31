-- Laws of finite sums: split, term by term, scaled, exchanged, and zero outside a part. Assumes nothing.
use Rattle.std.proofs.Common.{◌≡◌, ℕ, zero, suc, ◌+◌, ◌-◌, ◌*◌, ◌<◌, ◌≤◌, sym, refl, ap, ◌∙◌, le_refl, add-zero, add_assoc, add-suc, mul-le-mul_left, mul-zero, zero-add, arith}
use native.Mathlib.Nat.{le_dest}
use Rattle.arithmetic.specs.Sum.{sum}

pub sum_zero : (p : ℕ → ℕ) (a : ℕ) → sum p a 0 ≡ 0
unfolding sum
sum_zero p a = refl

pub sum_suc : (p : ℕ → ℕ) (a n : ℕ) → sum p a (suc n) ≡ sum p a n + p (a + n)
unfolding sum
sum_suc p a n = refl

pub sum_one : (p : ℕ → ℕ) (a : ℕ) → sum p a 1 ≡ p a
unfolding sum
sum_one p a = zero-add (p (a + 0)) ∙ ap p (add-zero a)

-- a loop's step, from i to i + 1
pub sum_step : (p : ℕ → ℕ) (a i : ℕ) → a ≤ i → sum p a (i + 1 - a) ≡ sum p a (i - a) + p i
sum_step p a i h =
    ap (sum p a) (omega arith) ∙ sum_suc p a (i - a) ∙ ap (λ (t : ℕ). sum p a (i - a) + p t) (omega arith)

-- a loop's start
pub sum_none_yet : (p : ℕ → ℕ) (a : ℕ) → sum p a (a - a) ≡ 0
sum_none_yet p a = ap (sum p a) (omega arith) ∙ sum_zero p a

-- splitting at a point
pub sum_split : (p : ℕ → ℕ) (a m n : ℕ) → sum p a (m + n) ≡ sum p a m + sum p (a + m) n
unfolding sum
sum_split p a m zero = ap (sum p a) (add-zero m) ∙ sym (add-zero (sum p a m))
sum_split p a m (suc n) =
    rw (add-suc m n) (omega (arith, sum_split p a m n, ap p (add_assoc a m n)))

-- equal or smaller terms, at the numbers summed over
pub sum_cong : (p q : ℕ → ℕ) (a n : ℕ) → ((i : ℕ) → a ≤ i → i < a + n → p i ≡ q i) → sum p a n ≡ sum q a n
unfolding sum
sum_cong p q a zero h = refl
sum_cong p q a (suc n) h =
    omega (arith, sum_cong p q a n (λ i l u. h i l (omega arith)), h (a + n) (omega arith) (omega arith))

pub sum_mono : (p q : ℕ → ℕ) (a n : ℕ) → ((i : ℕ) → a ≤ i → i < a + n → p i ≤ q i) → sum p a n ≤ sum q a n
unfolding sum
sum_mono p q a zero h = le_refl 0
sum_mono p q a (suc n) h =
    omega (arith, sum_mono p q a n (λ i l u. h i l (omega arith)), h (a + n) (omega arith) (omega arith))

pub sum_add : (p q : ℕ → ℕ) (a n : ℕ) → sum (λ i. p i + q i) a n ≡ sum p a n + sum q a n
unfolding sum
sum_add p q a zero = refl
sum_add p q a (suc n) = omega (arith, sum_add p q a n)

pub sum_scale : (k : ℕ) (p : ℕ → ℕ) (a n : ℕ) → sum (λ i. k * p i) a n ≡ k * sum p a n
unfolding sum
sum_scale k p a zero = sym (mul-zero k)
sum_scale k p a (suc n) = omega (arith, sum_scale k p a n)

pub sum_const : (k a n : ℕ) → sum (λ i. k) a n ≡ n * k
unfolding sum
sum_const k a zero = omega arith
sum_const k a (suc n) = omega (arith, sum_const k a n)

-- terms of at most k
pub sum_most : (p : ℕ → ℕ) (k a n : ℕ) → ((i : ℕ) → a ≤ i → i < a + n → p i ≤ k) → sum p a n ≤ n * k
sum_most p k a n h = omega (arith, sum_mono p (λ i. k) a n h, sum_const k a n)

-- one term is at most the sum
pub sum_term : (p : ℕ → ℕ) (a n i : ℕ) → a ≤ i → i < a + n → p i ≤ sum p a n
sum_term p a n i l u =
    let (x, e) = le_dest l in
    let (y, f) = le_dest u in
    let n-is : n ≡ suc x + y = omega arith in
    let at : p (a + x) ≡ p i = ap p e in
    omega (arith, ap (sum p a) n-is, sum_split p a (suc x) y, sum_suc p a x)

-- two sums change places
pub sum_swap : (f : ℕ → ℕ → ℕ) (a m b n : ℕ) → sum (λ i. sum (f i) b n) a m ≡ sum (λ j. sum (λ i. f i j) a m) b n
unfolding sum
sum_swap f a zero b n = sym (sum_const 0 b n ∙ mul-zero n)
sum_swap f a (suc m) b n =
    omega (arith, sum_swap f a m b n, sum_add (λ j. sum (λ i. f i j) a m) (f (a + m)) b n)

-- nothing but zeros, and a sum whose terms are 0 outside a part
pub sum_none : (p : ℕ → ℕ) (a n : ℕ) → ((i : ℕ) → a ≤ i → i < a + n → p i ≡ 0) → sum p a n ≡ 0
sum_none p a n h = sum_cong p (λ i. 0) a n h ∙ sum_const 0 a n ∙ mul-zero n

pub sum_within : (p : ℕ → ℕ) (a b n : ℕ) → a + b ≤ n → ((i : ℕ) → i < a → p i ≡ 0) → ((i : ℕ) → a + b ≤ i → i < n → p i ≡ 0) → sum p 0 n ≡ sum p a b
sum_within p a b n h before after =
    let (c, e) = le_dest h in
    let whole : sum p 0 n ≡ sum p 0 (a + b + c) = ap (sum p 0) (sym e) in
    let low : sum p 0 a ≡ 0 = sum_none p 0 a (λ i l u. before i (omega arith)) in
    let high : sum p (a + b) c ≡ 0 = sum_none p (a + b) c (λ i l u. after i l (omega arith)) in
    let z : sum p (0 + a) b ≡ sum p a b = ap (λ (t : ℕ). sum p t b) (zero-add a) in
    let z' : sum p (0 + (a + b)) c ≡ sum p (a + b) c = ap (λ (t : ℕ). sum p t c) (zero-add (a + b)) in
    omega (arith, sum_split p 0 (a + b) c, sum_split p 0 a b)

-- a weighted sum is at most the greatest term times the weights' total
pub sum_weighted_le : (w p : ℕ → ℕ) (k a n : ℕ) → ((i : ℕ) → a ≤ i → i < a + n → p i ≤ k) → sum (λ i. w i * p i) a n ≤ k * sum w a n
sum_weighted_le w p k a n h =
    rw (← (sum_scale k w a n)) (sum_mono (λ i. w i * p i) (λ i. k * w i) a n (λ i l u. omega (arith, mul-le-mul_left (w i) (h i l u))))
