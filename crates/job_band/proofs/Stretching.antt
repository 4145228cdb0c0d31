-- Which rows the next band has (SCOPE, "Bands"): R stands still over them and rises with the row after them; all of these lie in the crop, and there are as many as the
-- crop rows that the next output row needs, less one and less those used. Assumes nothing.
use Prim.Native.Nat.{ℕ, suc, ◌+◌, ◌-◌, ◌≤◌, ◌<◌}
use mathlib.Core.Path.{◌≡◌, refl, sym, ap, ◌∙◌}
use mathlib.Core.Logic.{◌⊎◌, inl, inr}
use mathlib.Core.Bool.{Bool, true, false, or-true, true≢false}
use native.Mathlib.Omega.{arith}
use lib.Dec.{ltb, leb}
use borrow.Author.Tests.{lt-ltb, le-ltb, le-leb, lt-leb, ltb-false, leb-false}
use Rattle.arithmetic.proofs.Orders.{le_or_lt}
use Rattle.pixels.specs.Sizes.{Fits}
use Rattle.pixels.proofs.Truths.{test, neither_true}
use Rattle.rows_schedule.specs.Schedule.{used, made, needed}
use Rattle.rows_schedule.proofs.Crop.{rows_all, rows_le}
use Rattle.rows_schedule.proofs.Needed.{needed_makes, needed_least, needed_le, made_of_needed}
use Rattle.job_rules.specs.declared.Plan.{Plan}
use Rattle.job_rules.specs.Rules.{R}
use Rattle.job.specs.Calls.{least}
use Rattle.job.proofs.Counting.{least_below, least_hit}
use Rattle.job_band.specs.Bands.{stretch, no_band, band_rows}

-- the least number of a test is the only one that it is true of and of none below
least_is : (P : ℕ → Bool) (n c : ℕ) → c < n → P c ≡ true → ((i : ℕ) → i < c → P i ≡ false) → least P 0 n ≡ c
least_is P n c l hit below = by (le_or_lt (least P 0 n) c) (le_or_lt c (least P 0 n))
  where
    by : (least P 0 n ≤ c) ⊎ (c < least P 0 n) → (c ≤ least P 0 n) ⊎ (least P 0 n < c) → least P 0 n ≡ c
    by (inl a) (inl b) = omega arith
    by (inl a) (inr b) = absurd (true≢false (sym (least_hit P 0 n (omega arith)) ∙ below (least P 0 n) b))
    by (inr a) b = absurd (true≢false (sym hit ∙ least_below P 0 n c (omega arith) a))

pub band_none : (p : Plan) (k : ℕ) → no_band p k ≡ true → band_rows p k ≡ 0
unfolding band_rows
band_none p k e = simp e

pub band_is : (p : Plan) (k : ℕ) → no_band p k ≡ false → band_rows p k ≡ stretch p k
unfolding band_rows
band_is p k there = simp there

-- what is known of the next band, n being its rows
pub record Stretch (p : Plan) (k n : ℕ) : Type 0 where
  pub reached : p.crop.y ≤ k
  pub down : p.target.height ≤ p.crop.height
  pub inside : k + n < p.crop.y + p.crop.height
  pub still : (i : ℕ) → i ≤ n → R p (k + i) ≡ R p k
  pub rises : R p k < R p (suc (k + n))

module _ (p : Plan) (k : ℕ) (fits : Fits p.source p.crop p.target) (there : no_band p k ≡ false) where
  abbrev h : ℕ
  h = p.crop.height

  abbrev g : ℕ
  g = p.target.height

  abbrev u : ℕ
  u = k - p.crop.y

  abbrev y : ℕ
  y = R p k

  at_top : p.crop.y ≤ k
  at_top = ltb-false k p.crop.y (neither_true (ltb k p.crop.y) _ there).0

  left : y < g
  left = leb-false g y (neither_true (leb g y) _ (neither_true (ltb k p.crop.y) _ there).1).0

  falls : g ≤ h
  falls = ltb-false h g (neither_true (leb g y) _ (neither_true (ltb k p.crop.y) _ there).1).1

  within : k < p.crop.y + h
  within = by (le_or_lt (p.crop.y + h) k)
    where
      by : (p.crop.y + h ≤ k) ⊎ (k < p.crop.y + h) → k < p.crop.y + h
      by (inl l) = absurd (omega (arith, rows_all p.crop.y h g fits.crop_height k l, left))
      by (inr l) = l

  rows_at : (c : ℕ) → k + c ≤ p.crop.y + h → R p (k + c) ≡ made h g (u + c)
  rows_at c l = let e : used p.crop.y h (k + c) ≡ u + c = omega (arith, at_top) in ap (made h g) e

  few : needed h g y ≤ h
  few = needed_le h g y fits.crop_height left

  more : u < needed h g y
  more = by (le_or_lt (needed h g y) u)
    where
      by : (needed h g y ≤ u) ⊎ (u < needed h g y) → u < needed h g y
      by (inl l) =
          let e : R p (k + 0) ≡ made h g (u + 0) = rows_at 0 (omega (arith, within)) in
          let a : k + 0 ≡ k = omega arith in
          let b : u + 0 ≡ u = omega arith in
          let e' : R p k ≡ made h g u = rw (a, b) at e in
          absurd (omega (arith, e', made_of_needed h g u y fits.crop_height left l))
      by (inr l) = l

  -- the rows, as the code finds them
  abbrev n : ℕ
  n = needed h g y - 1 - u

  low : (c : ℕ) → c ≤ n → R p (k + c) ≤ y
  low c l =
      rw (rows_at c (omega (arith, few, more, at_top)))
      (needed_least h g (u + c) y fits.crop_height fits.target_height.some (omega (arith, more)))

  flat : (c : ℕ) → c ≤ n → R p (k + c) ≡ y
  flat c l =
      let e : c + k ≡ k + c = omega arith in
      let up : R p k ≤ R p (c + k) = rows_le p.crop.y h g fits.crop_height k c in
      let up' : R p k ≤ R p (k + c) = rw e at up in
      omega (arith, low c l)

  rise : y < R p (suc (k + n))
  rise =
      let e : suc (k + n) ≡ k + suc n = omega arith in
      let e' : u + suc n ≡ needed h g y = omega (arith, more) in
      rw (e, rows_at (suc n) (omega (arith, few, more, at_top)), e') (needed_makes h g y fits.crop_height left)

  pub stretch_is : stretch p k ≡ n
  unfolding stretch
  stretch_is =
      least_is (λ c. ltb (R p k) (R p (suc (k + c)))) (p.source.height - k) n
      (omega (arith, few, more, at_top, fits.bottom))
      (lt-ltb (R p k) (R p (suc (k + n))) rise)
      (λ i l.
      let e : k + suc i ≡ suc (k + i) = omega arith in
      le-ltb (R p k) (R p (suc (k + i))) (let q : R p (k + suc i) ≤ y = low (suc i) (omega arith) in rw e at q))

  abbrev rows_are : band_rows p k ≡ n
  rows_are = band_is p k there ∙ stretch_is

  pub stretches : Stretch p k (band_rows p k)
  stretches = rw rows_are (record {
    reached = at_top;
    down = falls;
    inside = omega (arith, few, more, at_top);
    still = flat;
    rises = rise;
  })

-- ---- as the code finds it, y being what it has for R(k)
pub none_above : (p : Plan) (k : ℕ) → k < p.crop.y → no_band p k ≡ true
none_above p k l = simp (lt-ltb k p.crop.y l)

module _ (p : Plan) (k y : ℕ) (is : y ≡ R p k) where
  pub none_left : p.target.height ≤ y → no_band p k ≡ true
  none_left l = rw (le-leb p.target.height (R p k) (rw is at l), or-true (ltb k p.crop.y)) refl

  pub none_grows : p.crop.height < p.target.height → no_band p k ≡ true
  none_grows l = rw (lt-ltb p.crop.height p.target.height l, or-true (leb p.target.height (R p k)), or-true (ltb k p.crop.y)) refl

  module _ (fits : Fits p.source p.crop p.target) (lo : p.crop.y ≤ k) (down : p.target.height ≤ p.crop.height) (less : y < p.target.height) where
    is_there : no_band p k ≡ false
    is_there =
        rw (le-ltb k p.crop.y lo, lt-leb p.target.height (R p k) (rw is at less), le-ltb p.crop.height p.target.height down) refl

    -- m is what the code has for the crop rows that the next output row needs
    module _ (m : ℕ) (m-is : m ≡ needed p.crop.height p.target.height y) where
      found_is : m ≡ needed p.crop.height p.target.height (R p k)
      found_is = m-is ∙ ap (needed p.crop.height p.target.height) is

      pub found_some : 1 ≤ m
      found_some = omega (arith, found_is, more p k fits is_there)

      pub found_most : m ≤ 16384
      found_most = omega (arith, found_is, few p k fits is_there, fits.bottom, fits.source_height.most)

      pub found_used : k - p.crop.y ≤ m - 1
      found_used = omega (arith, found_is, more p k fits is_there)

      pub found_rows : m - 1 - (k - p.crop.y) ≡ band_rows p k
      found_rows = omega (arith, found_is, rows_are p k fits is_there)

-- a band has no more rows than a source
pub band_most : (p : Plan) (k : ℕ) → Fits p.source p.crop p.target → band_rows p k ≤ 16384
band_most p k fits = by (test (no_band p k))
  where
    by : (no_band p k ≡ true) ⊎ (no_band p k ≡ false) → band_rows p k ≤ 16384
    by (inl e) = rw (band_none p k e) (omega arith)
    by (inr e) = omega (arith, (stretches p k fits e).inside, fits.bottom, fits.source_height.most)
