-- What jonquilsaw_start_plane and jonquilsaw_start_planes tell and leave in every lent buffer, of their arguments in C's order; of a buffer that is only
-- measured the argument is its length. A number other than 0 leaves every buffer as it was. Assumes nothing.
use Rattle.std.specs.Prelude.{ℕ, Bool, ◌||◌, List, ltb, length}
use Rattle.pixels.specs.Refusals.{buffer_if}
use Rattle.pixels.specs.Sizes.{size_of, rect_of}
use Rattle.job_rules.specs.declared.Plan.{Plan}
use Rattle.job_rules.specs.Rules.{plane_of, start_number}
use Rattle.job.specs.Record.{fresh}
use Rattle.job_start.specs.Start.{start_work}
use Rattle.job_planes.specs.Planes.{plane_for, chroma_for, planes_number, plane_work}
use Rattle.capi_record.specs.Record.{record_length, stored_job}
use Rattle.capi_words.specs.Boundary.{boundary_first}

-- ---- jonquilsaw_start_plane: source sw by sh, lanes, the crop at x, y of cw by ch, target tw by th, work values, the record's words

abbrev pub plane_plan : ℕ → ℕ → ℕ → ℕ → ℕ → ℕ → ℕ → ℕ → ℕ → Plan
plane_plan sw sh lanes x y cw ch tw th = plane_of (size_of sw sh) lanes (rect_of x y cw ch) (size_of tw th)

-- the boundary's number for the words lent, then 1, 10, 2, 5
unfoldable pub number_of_plane : ℕ → ℕ → ℕ → ℕ → ℕ → ℕ → ℕ → ℕ → ℕ → ℕ → ℕ → ℕ
number_of_plane sw sh lanes x y cw ch tw th work words =
    boundary_first (ltb words record_length) (start_number (plane_plan sw sh lanes x y cw ch tw th) work)

-- both halves of the work rows cleared
unfoldable pub work_after_plane : ℕ → ℕ → ℕ → ℕ → ℕ → ℕ → ℕ → ℕ → ℕ → List ℕ → ℕ → List ℕ
work_after_plane sw sh lanes x y cw ch tw th work words =
    buffer_if (number_of_plane sw sh lanes x y cw ch tw th (length work) words) (start_work (plane_plan sw sh lanes x y cw ch tw th) work) work

-- the fresh record in the first words
unfoldable pub record_after_plane : ℕ → ℕ → ℕ → ℕ → ℕ → ℕ → ℕ → ℕ → ℕ → ℕ → List ℕ → List ℕ
record_after_plane sw sh lanes x y cw ch tw th work words =
    buffer_if (number_of_plane sw sh lanes x y cw ch tw th work (length words)) (stored_job (fresh (plane_plan sw sh lanes x y cw ch tw th)) words) words

-- ---- jonquilsaw_start_planes: source sw by sh, target tw by th, the work values of luma, cb and cr, the words of their records

abbrev pub luma_plan : ℕ → ℕ → ℕ → ℕ → Plan
luma_plan sw sh tw th = plane_for (size_of sw sh) (size_of tw th)

-- of cb and of cr
abbrev pub chroma_plan : ℕ → ℕ → ℕ → ℕ → Plan
chroma_plan sw sh tw th = chroma_for (size_of sw sh) (size_of tw th)

-- fewer words than a record takes, in any of the three
abbrev pub any_short : ℕ → ℕ → ℕ → Bool
any_short luma cb cr = ltb luma record_length || (ltb cb record_length || ltb cr record_length)

-- the boundary's number for the words lent, then 1, 5, each over all three planes
unfoldable pub number_of_planes : ℕ → ℕ → ℕ → ℕ → ℕ → ℕ → ℕ → ℕ → ℕ → ℕ → ℕ
number_of_planes sw sh tw th lumaWork cbWork crWork luma cb cr =
    boundary_first (any_short luma cb cr) (planes_number (size_of sw sh) (size_of tw th) lumaWork cbWork crWork)

-- both halves of each plane's work rows cleared
unfoldable pub luma_work_after_planes : ℕ → ℕ → ℕ → ℕ → List ℕ → ℕ → ℕ → ℕ → ℕ → ℕ → List ℕ
luma_work_after_planes sw sh tw th lumaWork cbWork crWork luma cb cr =
    plane_work (number_of_planes sw sh tw th (length lumaWork) cbWork crWork luma cb cr) (luma_plan sw sh tw th) lumaWork

unfoldable pub cb_work_after_planes : ℕ → ℕ → ℕ → ℕ → ℕ → List ℕ → ℕ → ℕ → ℕ → ℕ → List ℕ
cb_work_after_planes sw sh tw th lumaWork cbWork crWork luma cb cr =
    plane_work (number_of_planes sw sh tw th lumaWork (length cbWork) crWork luma cb cr) (chroma_plan sw sh tw th) cbWork

unfoldable pub cr_work_after_planes : ℕ → ℕ → ℕ → ℕ → ℕ → ℕ → List ℕ → ℕ → ℕ → ℕ → List ℕ
cr_work_after_planes sw sh tw th lumaWork cbWork crWork luma cb cr =
    plane_work (number_of_planes sw sh tw th lumaWork cbWork (length crWork) luma cb cr) (chroma_plan sw sh tw th) crWork

-- a record's words, with the number n and its plane's plan: the fresh record in the first of them, or all as they were
abbrev pub plane_record : ℕ → Plan → List ℕ → List ℕ
plane_record n p words = buffer_if n (stored_job (fresh p) words) words

unfoldable pub luma_after_planes : ℕ → ℕ → ℕ → ℕ → ℕ → ℕ → ℕ → List ℕ → ℕ → ℕ → List ℕ
luma_after_planes sw sh tw th lumaWork cbWork crWork luma cb cr =
    plane_record (number_of_planes sw sh tw th lumaWork cbWork crWork (length luma) cb cr) (luma_plan sw sh tw th) luma

unfoldable pub cb_after_planes : ℕ → ℕ → ℕ → ℕ → ℕ → ℕ → ℕ → ℕ → List ℕ → ℕ → List ℕ
cb_after_planes sw sh tw th lumaWork cbWork crWork luma cb cr =
    plane_record (number_of_planes sw sh tw th lumaWork cbWork crWork luma (length cb) cr) (chroma_plan sw sh tw th) cb

unfoldable pub cr_after_planes : ℕ → ℕ → ℕ → ℕ → ℕ → ℕ → ℕ → ℕ → ℕ → List ℕ → List ℕ
cr_after_planes sw sh tw th lumaWork cbWork crWork luma cb cr =
    plane_record (number_of_planes sw sh tw th lumaWork cbWork crWork luma cb (length cr)) (chroma_plan sw sh tw th) cr
