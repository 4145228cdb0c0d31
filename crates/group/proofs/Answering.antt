-- What an offer to a group gives, as its contract states it: a refusal leaves everything as it was, and the call that goes through. Assumes nothing.
use Prim.Native.Nat.{ℕ, ◌+◌, ◌≤◌}
use mathlib.Core.Path.{◌≡◌, refl, sym, ap, ◌∙◌}
use mathlib.Core.List.{List}
use native.Mathlib.Omega.{arith}
use lib.ListN.{length}
use borrow.Author.Tests.{eq-eqb}
use Rattle.pixels.specs.declared.Refusal.{Refusal}
use Rattle.pixels.specs.Refusals.{number}
use Rattle.pixels.proofs.Numbers.{not_zero}
use Rattle.job.specs.Calls.{fed, more_accepted}
use Rattle.group_parts.specs.Parts.{each_part}
use Rattle.group_rules.specs.declared.Group.{Group}
use Rattle.group_rules.specs.Group.{job_at, plan_at, each_job, needs}
use Rattle.group_rules.specs.Tests.{group_offer_number}
use Rattle.group_rules.proofs.Going.{group_offer_goes}
use Rattle.group.specs.Calls.{group_count, group_offer_rows, group_offered, group_offer_work, with_jobs}
use Rattle.group.proofs.Going.{in_source, all_fed}

abbrev pub OfferSays : Group → List ℕ → List ℕ → ℕ → ℕ → Group → List ℕ → Type 0
OfferSays g rows work told many next after =
    (told ≡ group_offer_number g (length rows) (length work))
    × ((many ≡ group_offer_rows g (length rows) (length work))
    × ((next ≡ group_offered g (length rows) (length work)) × (after ≡ group_offer_work g rows work)))

module _ (g : Group) (rows work : List ℕ) where
  pub offer_refused : (why : Refusal) → group_offer_number g (length rows) (length work) ≡ number why → OfferSays g rows work (number why) 0 g work
  unfolding group_offer_rows group_offered group_offer_work
  offer_refused why e =
      let z = not_zero why _ e in
      (sym e, (simp z, (simp z, simp z)))

  module _ (e : group_offer_number g (length rows) (length work) ≡ 0) (c : ℕ) (is : c ≡ group_count g (length rows)) where
    pub count_fits : (job_at g.jobs 0).accepted + c ≤ 16384
    count_fits =
        let o = group_offer_goes g (length rows) (length work) e in
        omega (arith, in_source g (length rows) (length work) o, (o.group.member 0 o.group.some).rules.sizes.source_height.most)

    pub offer_accepts : (next : Group) (after : List ℕ) → next ≡ with_jobs g (each_job (λ j. more_accepted j c) g.count g.jobs)
        → after ≡ each_part (needs g.jobs) (λ i. fed (plan_at g.jobs i) rows (job_at g.jobs 0).accepted c) g.count work
        → OfferSays g rows work 0 c next after
    unfolding group_offer_rows group_offered group_offer_work
    offer_accepts next after p q =
        let z = eq-eqb _ 0 e in
        let o = group_offer_goes g (length rows) (length work) e in
        let same = ap (λ (x : ℕ). with_jobs g (each_job (λ j. more_accepted j x) g.count g.jobs)) is in
        let part = ap (λ (x : ℕ). each_part (needs g.jobs) (λ i. fed (plan_at g.jobs i) rows (job_at g.jobs 0).accepted x) g.count work) is in
        (sym e, (is ∙ simp z, (p ∙ same ∙ simp z, q ∙ part ∙ all_fed g rows (length work) o work refl ∙ simp z)))
