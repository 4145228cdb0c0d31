-- What a take from a group gives, as its contract states it, and the rows ready of a job. Assumes nothing.
use Prim.Native.Nat.{ℕ, ◌≤◌, ◌<◌}
use mathlib.Core.Path.{◌≡◌, sym, ◌∙◌}
use mathlib.Core.Bool.{Bool, true, false, not}
use mathlib.Core.List.{List}
use lib.ListN.{length, set}
use borrow.Author.Tests.{eq-eqb, le-leb, lt-leb}
use Rattle.pixels.specs.declared.Refusal.{Refusal}
use Rattle.pixels.specs.Refusals.{number}
use Rattle.pixels.proofs.Truths.{not_true, not_false}
use Rattle.pixels.proofs.Numbers.{not_zero}
use Rattle.job.specs.Record.{ready_of}
use Rattle.job.specs.Calls as job
use Rattle.group_parts.specs.Parts.{put_at}
use Rattle.group_rules.specs.declared.Group.{Group}
use Rattle.group_rules.specs.Group.{job_at, needs, total, group_lawful}
use Rattle.group_rules.specs.Tests.{group_take_number}
use Rattle.group_tests.specs.Placed.{place_if}
use Rattle.group.specs.Calls.{group_ready, with_jobs, own_part, group_taken, group_take_out, group_take_work}

-- ---- the rows ready; b is what `check_group` answered
module _ (g : Group) (i : ℕ) (b : Bool) (is : b ≡ group_lawful g) where
  pub ready_broken : not b ≡ true → 0 ≡ group_ready g i
  unfolding group_ready
  ready_broken e = simp (sym is ∙ not_true b e)

  module _ (e : not b ≡ false) where
    pub ready_lacking : g.count ≤ i → 0 ≡ group_ready g i
    unfolding group_ready
    ready_lacking l = simp (sym is ∙ not_false b e, le-leb g.count i l)

    pub ready_job : i < g.count → (n : ℕ) → n ≡ ready_of (job_at g.jobs i) → n ≡ group_ready g i
    unfolding group_ready
    ready_job l n h = h ∙ simp (sym is ∙ not_false b e, lt-leb g.count i l)

-- ---- take, of job i
abbrev pub TakeSays : Group → ℕ → List ℕ → List ℕ → ℕ → Group → List ℕ → List ℕ → Type 0
TakeSays g i out work told next row after =
    (told ≡ group_take_number g i (length out) (length work))
    × ((next ≡ group_taken g i (length out) work)
    × ((row ≡ group_take_out g i out work) × (after ≡ group_take_work g i (length out) work)))

-- the place of a take that goes through
pub place_here : (n place asked : ℕ) → n ≡ 0 → place ≡ place_if n asked → place ≡ asked
place_here n place asked e h = h ∙ simp (eq-eqb n 0 e)

module _ (g : Group) (i : ℕ) (out work : List ℕ) where
  pub take_refused : (why : Refusal) → group_take_number g i (length out) (length work) ≡ number why → TakeSays g i out work (number why) g out work
  unfolding group_taken group_take_out group_take_work
  take_refused why e =
      let z = not_zero why _ e in
      (sym e, (simp z, (simp z, simp z)))

  pub take_writes : group_take_number g i (length out) (length work) ≡ 0 → (next : Group) (row after : List ℕ)
      → next ≡ with_jobs g (set g.jobs i (job.take_job (job_at g.jobs i) (length out) (own_part g i work)))
      → row ≡ job.take_out (job_at g.jobs i) out (own_part g i work)
      → after ≡ put_at (total g.jobs i) (needs g.jobs i) work (job.take_work (job_at g.jobs i) (length out) (own_part g i work))
      → TakeSays g i out work 0 next row after
  unfolding group_taken group_take_out group_take_work
  take_writes e next row after p q r =
      let z = eq-eqb _ 0 e in
      (sym e, (p ∙ simp z, (q ∙ simp z, r ∙ simp z)))
