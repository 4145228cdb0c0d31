-- The record rules: the test and the facts say the same, both ways; the test as the code makes it. Assumes nothing.
use Prim.Native.Nat.{ℕ, zero, suc}
use mathlib.Core.Path.{◌≡◌, refl, sym, ◌∙◌}
use mathlib.Core.Bool.{Bool, true, false, not, ◌||◌, or-true, or-false, true≢false}
use native.Mathlib.Omega.{arith}
use lib.Dec.{eqb}
use borrow.Author.Tests.{eq-eqb, ne_eqb, eqb-true}
use Rattle.pixels.specs.declared.Refusal.{Refusal}
use Rattle.pixels.specs.Refusals.{number}
use Rattle.pixels.specs.Sizes.{sizes_number}
use Rattle.pixels.proofs.Fitting.{fits_of, fits_good}
use Rattle.pixels.proofs.Truths.{both_true, not_true, not_false}
use Rattle.pixels.proofs.Numbers.{not_zero}
use Rattle.rows_schedule.specs.Schedule.{counts_fit}
use Rattle.rows_schedule.proofs.Counts.{counts_of, counts_good}
use Rattle.job_rules.specs.declared.Plan.{Plan}
use Rattle.job_rules.specs.Rules.{kind_fits, lawful_of, RulesOf}

flag_of : (t : ℕ) (f : Bool) → (not f || not (eqb t 0)) ≡ true → t ≡ 0 → f ≡ false
flag_of t false e z = refl
flag_of t true e z = absurd (true≢false (sym (let q : not (eqb t 0) ≡ false = simp (eq-eqb t 0 z) in sym q ∙ e)))

flag_good : (t : ℕ) (f : Bool) → (t ≡ 0 → f ≡ false) → (not f || not (eqb t 0)) ≡ true
flag_good zero f h = simp (h refl)
flag_good (suc t) f h = simp (ne_eqb (suc t) 0 (λ e. omega arith), or-true)

-- the test of the counts
abbrev counts : Plan → ℕ → ℕ → Bool
counts p k t = counts_fit p.crop.y p.crop.height p.target.height p.source.height k t

pub rules_of : (p : Plan) (k t : ℕ) (f : Bool) → lawful_of p k t f ≡ true → RulesOf p k t f
unfolding lawful_of
rules_of p k t f e =
    let s = both_true _ (not f || not (eqb t 0)) e in
    let kind = both_true _ (kind_fits p.kind p.layout p.lanes f) s.0 in
    let r = both_true _ (counts p k t) kind.0 in
    let (rows, (low, high)) = counts_of _ _ _ _ _ _ r.1 in
    record {
      sizes = fits_of p.source p.crop p.target (eqb-true _ _ r.0);
      rows = rows;
      low = low;
      high = high;
      kind_fitting = kind.1;
      flagless = flag_of t f s.1;
    }

pub rules_good : (p : Plan) (k t : ℕ) (f : Bool) → RulesOf p k t f → lawful_of p k t f ≡ true
unfolding lawful_of
rules_good p k t f r =
    simp (
      eq-eqb _ 0 (fits_good p.source p.crop p.target r.sizes),
      counts_good p.crop.y p.crop.height p.target.height p.source.height k t r.rows r.low r.high,
      r.kind_fitting,
      flag_good t f r.flagless,
    )

-- ---- the test as the code makes it: the first rule that is broken, and the last
module _ (p : Plan) (k t : ℕ) (f : Bool) where
  pub rule_sizes : (why : Refusal) → sizes_number p.source p.crop p.target ≡ number why → false ≡ lawful_of p k t f
  unfolding lawful_of
  rule_sizes why e = simp (not_zero why (sizes_number p.source p.crop p.target) e)

  module _ (fit : sizes_number p.source p.crop p.target ≡ 0) (b : Bool) (is : b ≡ counts p k t) where
    pub rule_counts : not b ≡ true → false ≡ lawful_of p k t f
    unfolding lawful_of
    rule_counts l = simp (eq-eqb _ 0 fit, sym is ∙ not_true b l)

    module _ (passed : not b ≡ false) (of-kind : Bool) (kind_is : of-kind ≡ kind_fits p.kind p.layout p.lanes f) where
      pub rule_kind : not of-kind ≡ true → false ≡ lawful_of p k t f
      unfolding lawful_of
      rule_kind l = simp (eq-eqb _ 0 fit, sym is ∙ not_false b passed, sym kind_is ∙ not_true of-kind l)

      module _ (fits-kind : not of-kind ≡ false) where
        rule_last : (not f || not (eqb t 0)) ≡ lawful_of p k t f
        unfolding lawful_of
        rule_last = simp (eq-eqb _ 0 fit, sym is ∙ not_false b passed, sym kind_is ∙ not_false of-kind fits-kind)

        pub rule_taken : (t ≡ 0 → ⊥) → true ≡ lawful_of p k t f
        rule_taken l = (let q : true ≡ (not f || not (eqb t 0)) = simp (ne_eqb t 0 l, or-true) in q) ∙ rule_last

        pub rule_flag : t ≡ 0 → not f ≡ lawful_of p k t f
        rule_flag l = (let q : not f ≡ (not f || not (eqb t 0)) = simp (eq-eqb t 0 l, or-false) in q) ∙ rule_last
