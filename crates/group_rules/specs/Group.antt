-- A group of jobs over one source (SCOPE, "Groups"): what its record holds, the rules that it is held to, and the group that a start forms. Assumes nothing.
use Rattle.std.specs.Prelude.{ℕ, zero, suc, min, Bool, true, false, not, ◌||◌, ◌&&◌, List, eqb, ltb, get_or, set, replicate}
use Rattle.pixels.specs.Sizes.{work_values}
use Rattle.pixels_layout.specs.declared.PixelLayout.{PixelLayout}
use Rattle.pixels_layout.specs.declared.PixelLayout.TheVariants.{Rgba8, Argb8, Bgra8}
use Rattle.job_rules.specs.declared.Kind.{Kind}
use Rattle.job_rules.specs.declared.Kind.TheVariants.{Picture, Plane}
use Rattle.job_rules.specs.declared.Plan.{Plan}
use Rattle.job_rules.specs.Rules.{plan_of, plane_of, lanes_of}
use Rattle.job.specs.declared.Job.{Job}
use Rattle.job.specs.Record.{fresh, lawful}
use Rattle.group_parts.specs.Parts.{offset}
use Rattle.group_rules.specs.declared.Group.{Group}

-- the most jobs of a group: "A group holds up to six jobs"
abbrev pub group_limit : ℕ
group_limit = 6

-- ---- the jobs of a group

-- what stands where no job is: the record of zeros
abbrev pub spare : Job
spare =
    record {
      plan = record {
        source = record { width = 0; height = 0 };
        layout = Rgba8;
        crop = record { x = 0; y = 0; width = 0; height = 0 };
        target = record { width = 0; height = 0 };
        kind = Picture;
        lanes = 0;
      };
      accepted = 0;
      taken = 0;
      flag = false;
    }

-- job i, counted from 0, and its plan
abbrev pub job_at : List Job → ℕ → Job
job_at js i = get_or js i spare

abbrev pub plan_at : List Job → ℕ → Plan
plan_at js i = (job_at js i).plan

-- a plan of those that a start is given
abbrev pub given_at : List Plan → ℕ → Plan
given_at plans i = get_or plans i spare.plan

-- all of the first n, one of the first n
unfoldable pub every : (ℕ → Bool) → ℕ → Bool
every f zero = true
every f (suc i) = every f i && f i

unfoldable pub some : (ℕ → Bool) → ℕ → Bool
some f zero = false
some f (suc i) = some f i || f i

-- each of the first n jobs changed, the others as they were
unfoldable pub each_job : (Job → Job) → ℕ → List Job → List Job
each_job f zero js = js
each_job f (suc i) js = set (each_job f i js) i (f (job_at js i))

-- ---- "one lent work slice cut among them in the order given"

-- the work values that job i needs
abbrev pub needs : List Job → ℕ → ℕ
needs js i = work_values (lanes_of (plan_at js i)) (plan_at js i).target.width

-- those of the first n jobs together: where the part of job n would start
abbrev pub total : List Job → ℕ → ℕ
total js n = offset (needs js) n

-- ---- "an empty group, or jobs whose source sizes, layouts, kinds or lane counts differ"

abbrev pub same_layout : PixelLayout → PixelLayout → Bool
same_layout Rgba8 Rgba8 = true
same_layout Rgba8 Argb8 = false
same_layout Rgba8 Bgra8 = false
same_layout Argb8 Rgba8 = false
same_layout Argb8 Argb8 = true
same_layout Argb8 Bgra8 = false
same_layout Bgra8 Rgba8 = false
same_layout Bgra8 Argb8 = false
same_layout Bgra8 Bgra8 = true

abbrev pub same_kind : Kind → Kind → Bool
same_kind Picture Picture = true
same_kind Picture Plane = false
same_kind Plane Picture = false
same_kind Plane Plane = true

unfoldable pub alike : Plan → Plan → Bool
alike p q =
    eqb q.source.width p.source.width
    && eqb q.source.height p.source.height
    && same_layout q.layout p.layout
    && same_kind q.kind p.kind
    && eqb (lanes_of q) (lanes_of p)

-- of the first n jobs
unfoldable pub differing : List Job → ℕ → Bool
differing js n = eqb n 0 || some (λ i. not (alike (plan_at js 0) (plan_at js i))) n

-- "A seventh job", n being how many there are
abbrev pub too_many : ℕ → Bool
too_many n = ltb group_limit n

-- ---- the record rules: "A group's record is 6 if any job's is, if its jobs differ in rows accepted, or if start would have refused that group with 13 or 14."
-- What stands beyond the count says nothing.
unfoldable pub group_lawful : Group → Bool
group_lawful g =
    not (too_many g.count)
    && not (differing g.jobs g.count)
    && every (λ i. lawful (job_at g.jobs i) && eqb (job_at g.jobs i).accepted (job_at g.jobs 0).accepted) g.count

-- ---- the group that a start forms

-- "Each job is formed as its own start would form it": a picture has four lanes, a plane the layout Rgba8, whatever the fields say
abbrev pub formed_by : Kind → Plan → Plan
formed_by Picture p = plan_of p.source p.layout p.crop p.target
formed_by Plane p = plane_of p.source p.lanes p.crop p.target

abbrev pub formed : Plan → Plan
formed p = formed_by p.kind p

-- how many plans a start looks at, n being how many there are: "looking at the first six only"
abbrev pub looked : ℕ → ℕ
looked n = min n group_limit

-- fresh jobs of the first n plans; the other places hold the record of zeros
unfoldable pub fresh_jobs : List Plan → ℕ → List Job
fresh_jobs plans zero = replicate group_limit spare
fresh_jobs plans (suc i) = set (fresh_jobs plans i) i (fresh (formed (given_at plans i)))

abbrev pub group_of : List Plan → ℕ → Group
group_of plans n = record { count = looked n; jobs = fresh_jobs plans (looked n) }
