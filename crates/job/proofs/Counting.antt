-- The rows that an offer accepts: `counted` stops at the first row that makes an output row ready, and at its bound, and is the only number that does. Assumes nothing.
use Prim.Native.Nat.{ℕ, zero, suc, ◌+◌, ◌≤◌, ◌<◌, min}
use mathlib.Core.Path.{◌≡◌, refl, sym, ◌∙◌, ap}
use mathlib.Core.Logic.{◌⊎◌, inl, inr, ⊎_elim}
use mathlib.Core.Bool.{Bool, true, false}
use native.Mathlib.Omega.{arith}
use native.Mathlib.Nat.{eq-or-lt_of_le}
use lib.Dec.{ltb}
use borrow.Author.Tests.{ltb-true, ltb-false}
use Rattle.pixels.proofs.Truths.{test}
use Rattle.job.specs.Calls.{least, counted}

-- ---- the least number of a test
module _ (P : ℕ → Bool) where
  hit : (c n : ℕ) → P c ≡ true → least P c (suc n) ≡ c
  unfolding least
  hit c n e = simp e

  miss : (c n : ℕ) → P c ≡ false → least P c (suc n) ≡ least P (suc c) n
  unfolding least
  miss c n e = simp e

  none : (c : ℕ) → least P c 0 ≡ c
  unfolding least
  none c = refl

  pub least_low : (c n : ℕ) → c ≤ least P c n
  least_low c zero = rw (none c) (omega arith)
  least_low c (suc n) = by (least_low (suc c) n) (test (P c))
    where
      by : suc c ≤ least P (suc c) n → (P c ≡ true) ⊎ (P c ≡ false) → c ≤ least P c (suc n)
      by h (inl e) = rw (hit c n e) (omega arith)
      by h (inr e) = rw (miss c n e) (omega arith)

  -- the test is false below it
  pub least_below : (c n i : ℕ) → c ≤ i → i < least P c n → P i ≡ false
  least_below c zero i l m = absurd (let q : i < c = rw (none c) at m in omega arith)
  least_below c (suc n) i l m = by (least_below (suc c) n i) (test (P c))
    where
      by : (suc c ≤ i → i < least P (suc c) n → P i ≡ false) → (P c ≡ true) ⊎ (P c ≡ false) → P i ≡ false
      by h (inl e) = absurd (let q : i < c = rw (hit c n e) at m in omega arith)
      by h (inr e) = ⊎_elim (λ q. ap P (sym q) ∙ e) (λ k. h k (rw (miss c n e) at m)) (eq-or-lt_of_le l)

  -- and true of it, unless there is none
  pub least_hit : (c n : ℕ) → least P c n < c + n → P (least P c n) ≡ true
  least_hit c zero l = absurd (let q : c < c + 0 = rw (none c) at l in omega arith)
  least_hit c (suc n) l = by (least_hit (suc c) n) (test (P c))
    where
      by : (least P (suc c) n < suc c + n → P (least P (suc c) n) ≡ true) → (P c ≡ true) ⊎ (P c ≡ false) → P (least P c (suc n)) ≡ true
      by h (inl e) = ap P (hit c n e) ∙ e
      by h (inr e) =
          let q : least P (suc c) n < c + suc n = rw (miss c n e) at l in
          ap P (miss c n e) ∙ h (omega arith)

-- ---- the count
data Order (a b : ℕ) : Type 0 where
  less : a < b → Order a b
  same : a ≡ b → Order a b
  more : b < a → Order a b

order : (a b : ℕ) → Order a b
order a b = go (test (ltb a b)) (test (ltb b a))
  where
    go : (ltb a b ≡ true) ⊎ (ltb a b ≡ false) → (ltb b a ≡ true) ⊎ (ltb b a ≡ false) → Order a b
    go (inl e) f = less (ltb-true a b e)
    go (inr e) (inl f) = more (ltb-true b a f)
    go (inr e) (inr f) = same (omega (arith, ltb-false a b e, ltb-false b a f))

module _ (r : ℕ → ℕ) (k t : ℕ) where
  abbrev above : ℕ → Bool
  above c = ltb t (r (k + c))

  counted_of : (n : ℕ) → counted r k t n ≡ min n (least above 1 n)
  unfolding counted
  counted_of n = refl

  pub counted_most : (n : ℕ) → counted r k t n ≤ n
  counted_most n = rw (counted_of n) (omega arith)

  pub counted_some : (n : ℕ) → 0 < n → 0 < counted r k t n
  counted_some n p = rw (counted_of n) (omega (arith, least_low above 1 n))

  -- it stops short only where a row is ready
  pub counted_stop : (n : ℕ) → counted r k t n < n → t < r (k + counted r k t n)
  counted_stop n l =
      let e : counted r k t n ≡ least above 1 n = counted_of n ∙ (let m : min n (least above 1 n) < n = rw (counted_of n) at l in omega arith) in
      ltb-true t (r (k + counted r k t n)) (ap above e ∙ least_hit above 1 n (rw (← e) (omega arith)))

  module _ (quiet : r k ≤ t) where
    -- nothing was ready before the last of them
    pub counted_low : (n i : ℕ) → i < counted r k t n → r (k + i) ≤ t
    counted_low n zero l = let e : k + 0 ≡ k = omega arith in rw e quiet
    counted_low n (suc i) l =
        let m : suc i < min n (least above 1 n) = rw (counted_of n) at l in
        ltb-false t (r (k + suc i)) (least_below above 1 n (suc i) (omega arith) (omega arith))

    -- the only number of which this is true
    pub counted_is : (n c : ℕ) → c ≤ n → ((i : ℕ) → i < c → r (k + i) ≤ t) → (c ≡ n) ⊎ (t < r (k + c)) → counted r k t n ≡ c
    counted_is n c l low stop = by (order (counted r k t n) c)
      where
        by : Order (counted r k t n) c → counted r k t n ≡ c
        by (same e) = e
        by (less m) = absurd (omega (arith, low (counted r k t n) m, counted_stop n (omega arith)))
        by (more m) = absurd (⊎_elim (λ e. omega (arith, counted_most n)) (λ s. omega (arith, counted_low n c m)) stop)
