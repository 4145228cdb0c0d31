-- When a band is turned away (SCOPE, "Bands"): 17 as the code tests it, and that a band which passes 6 and 17 gets the number that an offer of the same rows gets.
-- Where that is 0, the offer accepts all of them. Assumes nothing.
use Prim.Native.Nat.{ℕ, zero, suc, ◌*◌, ◌/◌, ◌%◌, ◌≤◌, ◌<◌}
use mathlib.Core.Path.{◌≡◌, refl, sym, ap, ◌∙◌}
use mathlib.Core.Logic.{◌⊎◌, inl, inr}
use mathlib.Core.Bool.{true, false, not, ◌||◌, or-true, true≢false}
use mathlib.Core.List.{List, [], ◌∷◌}
use native.Mathlib.Omega.{arith}
use native.Mathlib.Nat.{mul-le-mul, mul-mod_right}
use lib.Dec.{eqb, leb, ltb}
use borrow.Author.Tests.{eq-eqb, ne_eqb, eqb-true, eqb-false, ltb-false}
use Rattle.arithmetic.proofs.Quotients.{div_is}
use Rattle.pixels.specs.declared.Refusal.TheVariants.{PixelBufferMismatch, InvalidBand, RowReady, AllAccepted}
use Rattle.pixels.specs.Refusals.{Cause, cause}
use Rattle.pixels.specs.Sizes.{row_bytes, work_values}
use Rattle.pixels.proofs.Truths.{test, neither_true, differ, same, same_of}
use Rattle.pixels.proofs.Causes.{first_none, first_past, none_applies}
use Rattle.job_rules.specs.declared.Plan.{Plan}
use Rattle.job_rules.specs.Rules.{lanes_of, R, bad_rows, bad_record, short_work, offer_number_of}
use Rattle.job_rules.proofs.KindRules.{lane_count}
use Rattle.job.specs.declared.Job.{Job}
use Rattle.job.specs.Record.{lawful, Rules}
use Rattle.job.specs.Calls.{lent_rows, most_rows, count, offer_number}
use Rattle.job.proofs.Counting.{counted_is}
use Rattle.job.proofs.Views.{whole_good, lawful_of_lem, room_of}
use Rattle.job_band.specs.Bands.{stretch, no_band, band_rows, next_band, bad_band, band_causes, band_number}
use Rattle.job_band.proofs.Stretching.{Stretch, stretches, band_none, band_is, band_most}

-- ---- the rows of the next band, as the code finds them
pub next_none : (j : Job) → lawful j ≡ false → 0 ≡ next_band j
unfolding next_band
next_none j e = simp e

pub next_some : (j : Job) (n : ℕ) → lawful j ≡ true → n ≡ band_rows j.plan j.accepted → n ≡ next_band j
unfolding next_band
next_some j n e i = i ∙ sym (simp e)

-- ---- 17
module _ (p : Plan) (k n : ℕ) where
  abbrev stride : ℕ
  stride = row_bytes (lanes_of p) p.source.width

  band_empty : n ≡ 0 → bad_band p k n ≡ true
  band_empty e = simp (eq-eqb n 0 e)

  -- x is what the code has for the band's bytes
  module _ (some : n ≡ 0 → ⊥) (x : ℕ) (is : x ≡ stride * band_rows p k) where
    band_other : (n ≡ x → ⊥) → bad_band p k n ≡ true
    band_other ne = by (test (no_band p k))
      where
        by : (no_band p k ≡ true) ⊎ (no_band p k ≡ false) → bad_band p k n ≡ true
        by (inl e) = rw (e, or-true (not (eqb n (stride * stretch p k))), or-true (eqb n 0))
        by (inr e) =
            let q : (n ≡ stride * stretch p k) → ⊥ = λ s. ne (s ∙ ap (λ (z : ℕ). stride * z) (sym (band_is p k e)) ∙ sym is) in
            rw (differ n (stride * stretch p k) q, or-true (eqb n 0))

    pub band_exact : n ≡ x → bad_band p k n ≡ false
    band_exact e = by (test (no_band p k))
      where
        by : (no_band p k ≡ true) ⊎ (no_band p k ≡ false) → bad_band p k n ≡ false
        by (inl t) = absurd (some (e ∙ is ∙ ap (λ (z : ℕ). stride * z) (band_none p k t) ∙ omega arith))
        by (inr f) =
            let q : n ≡ stride * stretch p k = e ∙ is ∙ ap (λ (z : ℕ). stride * z) (band_is p k f) in
            rw (ne_eqb n 0 some, same n (stride * stretch p k) q, f) refl

  -- as the code tests it
  module _ (x : ℕ) (is : x ≡ stride * band_rows p k) where
    pub stretch_wrong : (eqb n 0 || not (eqb n x)) ≡ true → bad_band p k n ≡ true
    stretch_wrong e = by (test (eqb n 0)) (test (eqb n x))
      where
        by : (eqb n 0 ≡ true) ⊎ (eqb n 0 ≡ false) → (eqb n x ≡ true) ⊎ (eqb n x ≡ false) → bad_band p k n ≡ true
        by (inl t) o = band_empty (eqb-true n 0 t)
        by (inr f) (inr o) = band_other (eqb-false n 0 f) x is (eqb-false n x o)
        by (inr f) (inl o) = absurd (true≢false (sym e ∙ rw (f, o) refl))

    pub stretch_right : (eqb n 0 || not (eqb n x)) ≡ false → bad_band p k n ≡ false
    stretch_right e =
        let a = neither_true (eqb n 0) _ e in
        band_exact (eqb-false n 0 a.0) x is (same_of n x a.1)

  -- what it says that 17 passes
  pub record Exact : Type 0 where
    pub there : no_band p k ≡ false
    pub some : 0 < n
    pub exact : n ≡ stride * band_rows p k

  pub exact_of_lem : bad_band p k n ≡ false → Exact
  exact_of_lem e =
      let a = neither_true (eqb n 0) _ e in
      let b = neither_true (not (eqb n (stride * stretch p k))) _ a.1 in
      record {
        there = b.1;
        some = omega (arith, eqb-false n 0 a.0);
        exact = same_of n (stride * stretch p k) b.0 ∙ ap (λ (z : ℕ). stride * z) (sym (band_is p k b.1));
      }

  pub exact_some : Exact → 0 < band_rows p k
  exact_some x = by (band_rows p k) refl
    where
      by : (c : ℕ) → band_rows p k ≡ c → 0 < c
      by zero e =
          let none : n ≡ stride * 0 = x.exact ∙ ap (λ (z : ℕ). stride * z) e in
          absurd (omega (arith, x.some))
      by (suc c) e = omega arith

  -- whole rows, so that an offer of them is not 3
  pub rows_whole : Exact → bad_rows p n ≡ false
  rows_whole x =
      whole_good p n (record { some = x.some; whole = ap (λ (z : ℕ). z % stride) x.exact ∙ mul-mod_right stride (band_rows p k) })

-- a row has a byte
pub row_some : (j : Job) → Rules j → 1 ≤ row_bytes (lanes_of j.plan) j.plan.source.width
row_some j rules =
    mul-le-mul {n₁ = 1} {m₁ = 1} {n₂ = j.plan.lanes} {m₂ = j.plan.source.width}
    (lane_count j.plan.kind j.plan.layout j.plan.lanes j.flag rules.kind_fitting).some rules.sizes.source_width.some

-- the bytes of a band, r being what the code has for the length of a row and c for the band's rows
pub band_bytes : (j : Job) (r c : ℕ) → Rules j → r ≡ row_bytes (lanes_of j.plan) j.plan.source.width → c ≡ band_rows j.plan j.accepted → r * c ≤ 1073741824
band_bytes j r c rules r-is c-is =
    let lanes = (lane_count j.plan.kind j.plan.layout j.plan.lanes j.flag rules.kind_fitting).most in
    let row = mul-le-mul {n₁ = j.plan.lanes} {m₁ = j.plan.source.width} {n₂ = 4} {m₂ = 16384} lanes rules.sizes.source_width.most in
    mul-le-mul {n₁ = r} {m₁ = c} {n₂ = 65536} {m₂ = 16384} (omega arith) (omega (arith, band_most j.plan j.accepted rules.sizes))

-- ---- the number of a band that passes 6 and 17
abbrev pub band_tests : Job → ℕ → ℕ → List Cause
band_tests j n w = band_causes j.plan j.accepted j.taken j.flag n w

module _ (j : Job) (n w : ℕ) where
  abbrev behind : List Cause
  behind =
      short_work j.plan w
      ∷ cause (ltb j.taken (R j.plan j.accepted)) RowReady
      ∷ cause (leb j.plan.source.height j.accepted) AllAccepted
      ∷ []

  abbrev record_cause : Cause
  record_cause = bad_record j.plan j.accepted j.taken j.flag

  pub as_offered : not (lawful j) ≡ false → bad_band j.plan j.accepted n ≡ false → band_number j n w ≡ offer_number j n w
  unfolding band_number offer_number_of
  as_offered law fit =
      let ours = record_cause ∷ cause (bad_band j.plan j.accepted n) InvalidBand ∷ [] in
      let theirs = record_cause ∷ cause (bad_rows j.plan n) PixelBufferMismatch ∷ [] in
      let whole = rows_whole j.plan j.accepted n (exact_of_lem j.plan j.accepted n fit) in
      first_past ours behind (first_none ours (law, (fit, tt)))
      ∙ sym (first_past theirs behind (first_none theirs (law, (whole, tt))))

  -- r is what the code was told of an offer
  pub told_of_offer : not (lawful j) ≡ false → bad_band j.plan j.accepted n ≡ false → (r : ℕ) → r ≡ offer_number j n w → r ≡ band_number j n w
  told_of_offer law fit r is = is ∙ sym (as_offered law fit)

  -- what number 0 says
  pub record BandWent : Type 0 where
    pub rules : Rules j
    pub exact : Exact j.plan j.accepted n
    pub offers : offer_number j n w ≡ 0
    pub band : Stretch j.plan j.accepted (band_rows j.plan j.accepted)
    pub room : work_values (lanes_of j.plan) j.plan.target.width ≤ w
    pub quiet : R j.plan j.accepted ≤ j.taken

  pub band_went : band_number j n w ≡ 0 → BandWent
  unfolding band_number
  band_went e =
      let q = none_applies (band_tests j n w) e in
      let rules = lawful_of_lem j q.0 in
      let exact = exact_of_lem j.plan j.accepted n q.1.0 in
      record {
        rules = rules;
        exact = exact;
        offers = sym (as_offered q.0 q.1.0) ∙ e;
        band = stretches j.plan j.accepted rules.sizes exact.there;
        room = room_of j.plan w q.1.1.0;
        quiet = ltb-false j.taken (R j.plan j.accepted) q.1.1.1.0;
      }

-- ---- an offer of exactly these rows accepts them all
module _ (j : Job) (n w : ℕ) (b : BandWent j n w) where
  abbrev c : ℕ
  c = band_rows j.plan j.accepted

  pub lent_is : lent_rows j.plan n ≡ c
  lent_is =
      ap (λ (z : ℕ). z / row_bytes (lanes_of j.plan) j.plan.source.width) b.exact.exact
      ∙ div_exact (row_bytes (lanes_of j.plan) j.plan.source.width) c (row_some j b.rules)
    where
      div_exact : (d x : ℕ) → 1 ≤ d → d * x / d ≡ x
      div_exact d x q = div_is d (omega arith) (omega arith)

  most_is : most_rows j n ≡ c
  most_is = omega (arith, lent_is, b.band.inside, b.rules.sizes.bottom)

  pub counted_all : count j n ≡ c
  counted_all =
      counted_is (R j.plan) j.accepted j.taken b.quiet (most_rows j n) c (omega (arith, most_is))
      (λ i l. omega (arith, b.band.still i (omega arith), b.quiet)) (inl (sym most_is))
