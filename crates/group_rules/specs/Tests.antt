-- The tests of a group's calls, each number over all its jobs before the next (SCOPE, "Groups" and "Why a call is turned away"). Assumes nothing.
use Rattle.std.specs.Prelude.{ℕ, Bool, not, List, [], ◌∷◌, leb, ltb}
use Rattle.pixels.specs.declared.Refusal.TheVariants.{InvalidDimensions, CropOutOfBounds, PixelBufferMismatch, OutputLength, InvalidRecord, RowReady, AllAccepted, NoneReady, InvalidLanes, InvalidGroup, GroupTooLarge}
use Rattle.pixels.specs.Refusals.{Cause, cause, first, other_length, few_work}
use Rattle.pixels.specs.Sizes.{row_bytes, bad_sizes, bad_lanes, crop_beyond}
use Rattle.job_rules.specs.declared.Plan.{Plan}
use Rattle.job_rules.specs.Rules.{lanes_of, R, bad_rows}
use Rattle.job.specs.declared.Job.{Job}
use Rattle.group_rules.specs.declared.Group.{Group}
use Rattle.group_rules.specs.Group.{job_at, plan_at, some, total, differing, too_many, group_lawful, looked, fresh_jobs}

-- ---- start: 1, 10, 2, 13, 14, 5

-- of the first n jobs js, of which count were asked for, and w work values
abbrev pub start_causes : List Job → ℕ → ℕ → ℕ → List Cause
start_causes js n count w =
    cause (some (λ i. bad_sizes (plan_at js i).source (plan_at js i).crop (plan_at js i).target) n) InvalidDimensions
    ∷ cause (some (λ i. bad_lanes (lanes_of (plan_at js i))) n) InvalidLanes
    ∷ cause (some (λ i. crop_beyond (plan_at js i).crop (plan_at js i).source) n) CropOutOfBounds
    ∷ cause (differing js n) InvalidGroup
    ∷ cause (too_many count) GroupTooLarge
    ∷ few_work w (total js n)
    ∷ []

-- of the plans given: the jobs are those that a start would form
unfoldable pub group_start_number : List Plan → ℕ → ℕ → ℕ
group_start_number plans count w = first (start_causes (fresh_jobs plans (looked count)) (looked count) count w)

-- ---- offer: 6, 3, 5, 7, 8

abbrev pub bad_group : Group → Cause
bad_group g = cause (not (group_lawful g)) InvalidRecord

-- "Number 5 then compares the slice with the sum of all needs"
abbrev pub short_group : Group → ℕ → Cause
short_group g w = few_work w (total g.jobs g.count)

-- one of the first n jobs has a row ready once k rows are accepted
abbrev pub ready_at : Job → ℕ → Bool
ready_at j k = ltb j.taken (R j.plan k)

abbrev pub some_ready : List Job → ℕ → ℕ → Bool
some_ready js n k = some (λ i. ready_at (job_at js i) k) n

-- of n bytes lent and w work values
abbrev pub group_offer_causes : Group → ℕ → ℕ → List Cause
group_offer_causes g n w =
    bad_group g
    ∷ cause (bad_rows (plan_at g.jobs 0) n) PixelBufferMismatch
    ∷ short_group g w
    ∷ cause (some_ready g.jobs g.count (job_at g.jobs 0).accepted) RowReady
    ∷ cause (leb (plan_at g.jobs 0).source.height (job_at g.jobs 0).accepted) AllAccepted
    ∷ []

unfoldable pub group_offer_number : Group → ℕ → ℕ → ℕ
group_offer_number g n w = first (group_offer_causes g n w)

-- ---- take: 6, 13, 4, 5, 9

-- "a take naming a job (counted from 0) that the group lacks"
abbrev pub lacks : Group → ℕ → Bool
lacks g i = leb g.count i

-- of job i, n bytes of output and w work values
abbrev pub group_take_causes : Group → ℕ → ℕ → ℕ → List Cause
group_take_causes g i n w =
    bad_group g
    ∷ cause (lacks g i) InvalidGroup
    ∷ other_length n (row_bytes (lanes_of (plan_at g.jobs i)) (plan_at g.jobs i).target.width) OutputLength
    ∷ short_group g w
    ∷ cause (leb (R (plan_at g.jobs i) (job_at g.jobs i).accepted) (job_at g.jobs i).taken) NoneReady
    ∷ []

unfoldable pub group_take_number : Group → ℕ → ℕ → ℕ → ℕ
group_take_number g i n w = first (group_take_causes g i n w)
