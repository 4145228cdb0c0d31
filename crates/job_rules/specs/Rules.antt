-- The plan of a job, the record rules and the tests of its calls (SCOPE, "The job" and "Why a call is turned away"). The record comes as its parts: the plan p,
-- the rows accepted k, the rows taken t and the flag f. Assumes nothing.
use Rattle.std.specs.Prelude.{ℕ, ◌-◌, ◌%◌, ◌≤◌, ◌≡◌, Bool, true, false, not, ◌||◌, ◌&&◌, ◌⊎◌, List, [], ◌∷◌, eqb, leb, ltb}
use Rattle.pixels.specs.declared.Dimensions.{Dimensions}
use Rattle.pixels.specs.declared.Rect.{Rect}
use Rattle.pixels.specs.declared.Refusal.TheVariants.{PixelBufferMismatch, OutputLength, InvalidRecord, RowReady, AllAccepted, NoneReady}
use Rattle.pixels.specs.Refusals.{Cause, cause, first, other_length, few_work}
use Rattle.pixels.specs.Sizes.{pixel_lanes, row_bytes, work_values, bad_lanes, wrong_sizes, wrong_lanes, crop_outside, sizes_number, Fits}
use Rattle.pixels_layout.specs.declared.PixelLayout.{PixelLayout}
use Rattle.pixels_layout.specs.declared.PixelLayout.TheVariants.{Rgba8, Argb8, Bgra8}
use Rattle.rows_form.specs.declared.RowForm.{RowForm}
use Rattle.rows_form.specs.declared.RowForm.TheVariants.{Pixels, Plain}
use Rattle.rows_schedule.specs.Schedule.{rows_by, counts_fit}
use Rattle.job_rules.specs.declared.Kind.{Kind}
use Rattle.job_rules.specs.declared.Kind.TheVariants.{Picture, Plane}
use Rattle.job_rules.specs.declared.Plan.{Plan}

-- the plan of a picture, and that of a plane of so many lanes: "its layout `Rgba8`"
abbrev pub plan_of : Dimensions → PixelLayout → Rect → Dimensions → Plan
plan_of source layout crop target =
    record { source = source; layout = layout; crop = crop; target = target; kind = Picture; lanes = pixel_lanes }

abbrev pub plane_of : Dimensions → ℕ → Rect → Dimensions → Plan
plane_of source lanes crop target =
    record { source = source; layout = Rgba8; crop = crop; target = target; kind = Plane; lanes = lanes }

-- what start and start_plane form: no other plan is ever started
abbrev pub Formed : Plan → Type 0
Formed p = (p ≡ plan_of p.source p.layout p.crop p.target) ⊎ (p ≡ plane_of p.source p.lanes p.crop p.target)

-- how many lanes the rows of a job have: "Row lengths and the work need count lanes in place of 4"
abbrev pub lanes_of : Plan → ℕ
lanes_of p = p.lanes

-- what the bytes of its rows are
abbrev pub form_by : Kind → PixelLayout → ℕ → RowForm
form_by Picture layout lanes = Pixels layout
form_by Plane layout lanes = Plain lanes

abbrev pub form_of : Plan → RowForm
form_of p = form_by p.kind p.layout p.lanes

-- R(k): the output rows that the first k source rows make
abbrev pub R : Plan → ℕ → ℕ
R p k = rows_by p.crop.y p.crop.height p.target.height k

-- ---- the record rules

-- "a picture job's record with a count other than 4, or a plane record with the flag set, another layout or a count outside 1 to 4, is 6"
abbrev pub is_rgba : PixelLayout → Bool
is_rgba Rgba8 = true
is_rgba Argb8 = false
is_rgba Bgra8 = false

unfoldable pub kind_fits : Kind → PixelLayout → ℕ → Bool → Bool
kind_fits Picture layout lanes f = eqb lanes pixel_lanes
kind_fits Plane layout lanes f = is_rgba layout && (not (bad_lanes lanes) && not f)

-- "sizes and crop pass 1 and 2; k ≤ source height; R(k-1) ≤ t ≤ R(k) (t = 0 if k = 0); no flag while t = 0", and the rule of its kind
unfoldable pub lawful_of : Plan → ℕ → ℕ → Bool → Bool
lawful_of p k t f =
    eqb (sizes_number p.source p.crop p.target) 0
    && counts_fit p.crop.y p.crop.height p.target.height p.source.height k t
    && kind_fits p.kind p.layout p.lanes f
    && (not f || not (eqb t 0))

-- the same as facts
pub record RulesOf (p : Plan) (k t : ℕ) (f : Bool) : Type 0 where
  pub sizes : Fits p.source p.crop p.target
  pub rows : k ≤ p.source.height
  pub low : R p (k - 1) ≤ t
  pub high : t ≤ R p k
  pub kind_fitting : kind_fits p.kind p.layout p.lanes f ≡ true
  pub flagless : t ≡ 0 → f ≡ false

-- ---- causes

-- "fewer than 2 × lanes × target width work values", w being lent
abbrev pub short_work : Plan → ℕ → Cause
short_work p w = few_work w (work_values (lanes_of p) p.target.width)

-- "record breaks the rules"
abbrev pub bad_record : Plan → ℕ → ℕ → Bool → Cause
bad_record p k t f = cause (not (lawful_of p k t f)) InvalidRecord

-- ---- start: 1, 10, 2, 5; a picture has four lanes, so that 10 is a plane's alone

abbrev pub start_causes : Plan → ℕ → List Cause
start_causes p w =
    wrong_sizes p.source p.crop p.target
    ∷ wrong_lanes (lanes_of p)
    ∷ crop_outside p.crop p.source
    ∷ short_work p w
    ∷ []

unfoldable pub start_number : Plan → ℕ → ℕ
start_number p w = first (start_causes p w)

-- ---- offer: 6, 3, 5, 7, 8

-- "offered bytes empty or no whole number of source rows"
abbrev pub bad_rows : Plan → ℕ → Bool
bad_rows p n = eqb n 0 || not (eqb (n % row_bytes (lanes_of p) p.source.width) 0)

-- of n bytes lent and w work values
abbrev pub offer_causes : Plan → ℕ → ℕ → Bool → ℕ → ℕ → List Cause
offer_causes p k t f n w =
    bad_record p k t f
    ∷ cause (bad_rows p n) PixelBufferMismatch
    ∷ short_work p w
    ∷ cause (ltb t (R p k)) RowReady
    ∷ cause (leb p.source.height k) AllAccepted
    ∷ []

unfoldable pub offer_number_of : Plan → ℕ → ℕ → Bool → ℕ → ℕ → ℕ
offer_number_of p k t f n w = first (offer_causes p k t f n w)

-- ---- take: 6, 4, 5, 9

-- of n bytes of output and w work values
abbrev pub take_causes : Plan → ℕ → ℕ → Bool → ℕ → ℕ → List Cause
take_causes p k t f n w =
    bad_record p k t f
    ∷ other_length n (row_bytes (lanes_of p) p.target.width) OutputLength
    ∷ short_work p w
    ∷ cause (leb (R p k) t) NoneReady
    ∷ []

unfoldable pub take_number_of : Plan → ℕ → ℕ → Bool → ℕ → ℕ → ℕ
take_number_of p k t f n w = first (take_causes p k t f n w)
