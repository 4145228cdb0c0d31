-- A picture of three planes (SCOPE, "Planes"): "luma full size, both chroma planes half size rounded up, in source and target alike; one lane each, uncropped", as
-- three jobs "with a work slice each, or none where a number applies to any". Assumes nothing.
use Rattle.std.specs.Prelude.{ℕ, ◌+◌, ◌/◌, List, [], ◌∷◌}
use Rattle.pixels.specs.declared.Dimensions.{Dimensions}
use Rattle.pixels.specs.Refusals.{Cause, first, few_work, buffer_if}
use Rattle.pixels.specs.Sizes.{work_values, wrong_size, size_of, rect_of}
use Rattle.job_rules.specs.declared.Plan.{Plan}
use Rattle.job_rules.specs.Rules.{plane_of}
use Rattle.job_start.specs.Start.{cleared}

-- "half size rounded up"
abbrev pub chroma_side : ℕ → ℕ
chroma_side side = (side + 1) / 2

abbrev pub chroma_of : Dimensions → Dimensions
chroma_of size = size_of (chroma_side size.width) (chroma_side size.height)

-- "one lane each, uncropped"
abbrev pub plane_for : Dimensions → Dimensions → Plan
plane_for source target = plane_of source 1 (rect_of 0 0 source.width source.height) target

-- the plan of both chroma planes
abbrev pub chroma_for : Dimensions → Dimensions → Plan
chroma_for source target = plane_for (chroma_of source) (chroma_of target)

-- ---- the numbers: 1 over all three planes, then 5 over all three, of the work values lent to each; one lane is never 10, and a plane that is not cropped never 2
abbrev pub planes_causes : Dimensions → Dimensions → ℕ → ℕ → ℕ → List Cause
planes_causes source target luma cb cr =
    wrong_size source
    ∷ wrong_size target
    ∷ wrong_size (chroma_of source)
    ∷ wrong_size (chroma_of target)
    ∷ few_work luma (work_values 1 target.width)
    ∷ few_work cb (work_values 1 (chroma_of target).width)
    ∷ few_work cr (work_values 1 (chroma_of target).width)
    ∷ []

unfoldable pub planes_number : Dimensions → Dimensions → ℕ → ℕ → ℕ → ℕ
planes_number source target luma cb cr = first (planes_causes source target luma cb cr)

-- a work slice afterwards, with the number n and its plane's plan: cleared, or as it was
abbrev pub plane_work : ℕ → Plan → List ℕ → List ℕ
plane_work n p work = buffer_if n (cleared p work) work
