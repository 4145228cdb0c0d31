-- A group's start: its tests as the code makes them, of the group g that it forms, and its answers. Assumes nothing.
use Prim.Native.Nat.{ℕ, ◌≤◌}
use mathlib.Core.Path.{◌≡◌, sym, ◌∙◌, ap, subst}
use mathlib.Core.Bool.{Bool, true, cond}
use mathlib.Core.List.{List, ◌++◌}
use lib.ListN.{length, drop, replicate}
use borrow.Author.Tests.{eq-eqb, ltb-false}
use Rattle.pixels.specs.declared.Refusal.{Refusal}
use Rattle.pixels.specs.Refusals.{number}
use Rattle.pixels.proofs.Causes.{none_applies}
use Rattle.pixels.proofs.Numbers.{not_zero}
use Rattle.job_rules.specs.declared.Plan.{Plan}
use Rattle.job.specs.declared.Job.{Job}
use Rattle.group_rules.specs.declared.Group.{Group}
use Rattle.group_rules.specs.Group.{some, total, looked, fresh_jobs, group_of, group_lawful}
use Rattle.group_rules.specs.Tests.{start_causes, group_start_number}
use Rattle.group_rules.proofs.Lawful.{looked_few, looked_most}
use Rattle.group_tests.specs.Placed.{place_if}
use Rattle.group_start.specs.Inner.{wrong_at, lanes_at, beyond_at}
use Rattle.group_start.specs.Start.{group_started, group_start_work}

-- ---- the tests; each looks at the first n of the jobs js
abbrev pub wrong : List Job → ℕ → Bool
wrong js n = some (wrong_at js) n

abbrev pub laneless : List Job → ℕ → Bool
laneless js n = some (lanes_at js) n

abbrev pub beyond : List Job → ℕ → Bool
beyond js n = some (beyond_at js) n

module _ (plans : List Plan) (count : ℕ) (g : Group) (is : g ≡ group_of plans count) where
  -- what a test of g answered is the test of the jobs that the definition looks at
  pub told : (test : List Job → ℕ → Bool) (b v : Bool) → b ≡ test g.jobs (looked g.count) → b ≡ v → test (fresh_jobs plans (looked count)) (looked count) ≡ v
  told test b v e h =
      ap (test (fresh_jobs plans (looked count))) (sym (looked_few (looked count) (looked_most count)))
      ∙ ap (λ (x : Group). test x.jobs (looked x.count)) (sym is)
      ∙ sym e
      ∙ h

  pub need_told : group_lawful (group_of plans count) ≡ true → (n : ℕ) → n ≡ cond (group_lawful g) (total g.jobs g.count) 0
      → n ≡ total (fresh_jobs plans (looked count)) (looked count)
  need_told e n h = h ∙ ap (λ (x : Group). cond (group_lawful x) (total x.jobs x.count) 0) is ∙ simp e

-- ---- the answers
module _ (plans : List Plan) (count : ℕ) (work : List ℕ) where
  pub start_turned : (why : Refusal) → number why ≡ group_start_number plans count (length work) → (g : Group) → g ≡ group_of plans 0
      → (number why ≡ group_start_number plans count (length work)) × ((g ≡ group_started plans count (length work)) × (work ≡ group_start_work plans count work))
  unfolding group_started group_start_work
  start_turned why e g h = let no = not_zero why (group_start_number plans count (length work)) (sym e) in (e, (h ∙ simp no, simp no))

  module _ (z : 0 ≡ group_start_number plans count (length work)) (n : ℕ)
      (is : n ≡ place_if (group_start_number plans count (length work)) (total (fresh_jobs plans (looked count)) (looked count))) where
    place_is : n ≡ total (fresh_jobs plans (looked count)) (looked count)
    place_is = is ∙ simp (eq-eqb _ 0 (sym z))

    pub start_room : n ≤ length work
    unfolding group_start_number
    start_room =
        let q = none_applies (start_causes (fresh_jobs plans (looked count)) (looked count) count (length work)) (sym z) in
        subst (λ (x : ℕ). x ≤ length work) (sym place_is) (ltb-false _ _ q.1.1.1.1.1.0)

    pub start_went : (g : Group) (next : List ℕ) → g ≡ group_of plans count → next ≡ replicate n 0 ++ drop n work
        → (0 ≡ group_start_number plans count (length work)) × ((g ≡ group_started plans count (length work)) × (next ≡ group_start_work plans count work))
    unfolding group_started group_start_work
    start_went g next e h = let yes = eq-eqb (group_start_number plans count (length work)) 0 (sym z) in (z, (e ∙ simp yes, h ∙ rw place_is (simp yes)))
