-- The group that a start forms, as the code makes it: a plan by its kind, and one job after another. Assumes nothing.
use Prim.Native.Nat.{ℕ, ◌+◌}
use mathlib.Core.Path.{◌≡◌, refl, sym, ◌∙◌, ap, ap₂}
use mathlib.Core.List.{List}
use native.Mathlib.Numerals.{add-one}
use lib.ListN.{set, replicate}
use Rattle.pixels.specs.Sizes.{pixel_lanes}
use Rattle.pixels_layout.specs.declared.PixelLayout.{PixelLayout}
use Rattle.pixels_layout.specs.declared.PixelLayout.TheVariants.{Rgba8}
use Rattle.job_rules.specs.declared.Kind.{Kind}
use Rattle.job_rules.specs.declared.Kind.TheVariants.{Picture, Plane}
use Rattle.job_rules.specs.declared.Plan.{Plan}
use Rattle.job.specs.declared.Job.{Job}
use Rattle.job.specs.Record.{fresh}
use Rattle.group_rules.specs.declared.Group.{Group}
use Rattle.group_rules.specs.Group.{group_limit, spare, given_at, formed, formed_by, looked, fresh_jobs, group_of}
use Rattle.group_rules.proofs.Forming.{fresh_none, fresh_more}

-- a plan as the code forms it, its kind left as it is
abbrev formed_with : Plan → Kind → PixelLayout → ℕ → Plan
formed_with p kind layout lanes = record { source = p.source; layout = layout; crop = p.crop; target = p.target; kind = kind; lanes = lanes }

pub of_picture : (p : Plan) → p.kind ≡ Picture → formed_with p p.kind p.layout pixel_lanes ≡ formed p
of_picture p e = ap (λ (k : Kind). formed_with p k p.layout pixel_lanes) e ∙ sym (ap (λ (k : Kind). formed_by k p) e)

pub of_plane : (p : Plan) → p.kind ≡ Plane → formed_with p p.kind Rgba8 p.lanes ≡ formed p
of_plane p e = ap (λ (k : Kind). formed_with p k Rgba8 p.lanes) e ∙ sym (ap (λ (k : Kind). formed_by k p) e)

abbrev pub group_with : ℕ → List Job → Group
group_with n js = record { count = n; jobs = js }

-- the loop: the first i jobs are formed
pub record Forming (plans : List Plan) (n : ℕ) (g : Group) (i : ℕ) : Type 0 where
  pub counted : g.count ≡ n
  pub formed_are : g.jobs ≡ fresh_jobs plans i

pub forming_first : (plans : List Plan) (n : ℕ) (none : Job) → none ≡ spare → Forming plans n (group_with n (replicate group_limit none)) 0
forming_first plans n none e = record {
  counted = refl;
  formed_are = ap (replicate group_limit) e ∙ sym (fresh_none plans);
}

pub forming_more : (plans : List Plan) (n : ℕ) (g : Group) (i : ℕ) → Forming plans n g i → (p : Plan) → p ≡ formed (given_at plans i)
    → Forming plans n (group_with g.count (set g.jobs i (fresh p))) (i + 1)
forming_more plans n g i v p e = record {
  counted = v.counted;
  formed_are = rw (add-one i) (fresh_more plans i g.jobs p v.formed_are e);
}

pub formed_all : (plans : List Plan) (count n : ℕ) (g : Group) (i : ℕ) → Forming plans n g i → i ≡ n → n ≡ looked count → g ≡ group_of plans count
formed_all plans count n g i v l is = ap₂ group_with (v.counted ∙ is) (v.formed_are ∙ ap (fresh_jobs plans) (l ∙ is))
