-- A row goes out: its bytes are the closed form's, the work rows hold what is left, a picture's alphas and flag are the scaled ones, and under the premise its
-- alpha, the colours beside an alpha of 255 and every byte of a plane are near the exact mean (MATHEMATICS 7). Assumes nothing.
use Prim.Native.Nat.{ℕ, suc, ◌+◌, ◌*◌, ◌/◌, ◌%◌, ◌≤◌, ◌<◌}
use mathlib.Core.Path.{◌≡◌, sym, ap, ◌∙◌}
use mathlib.Core.Bool.{true}
use mathlib.Core.List.{List}
use native.Mathlib.Omega.{arith}
use native.Mathlib.Nat.{mul-le-mul_left}
use lib.ListN.{length, get_or, drop}
use Rattle.arithmetic.specs.Matte.{lane_of, mult_argb, pixel_of, scale_colour, restore_factor}
use Rattle.arithmetic.proofs.Mattes.{pixel_cong}
use Rattle.arithmetic.specs.Weight.{span}
use Rattle.arithmetic.proofs.Tables.{length_tabulate, get_d_tabulate, tabulate_cong}
use Rattle.pixels.specs.declared.Dimensions.{Dimensions}
use Rattle.pixels.specs.declared.Rect.{Rect}
use Rattle.pixels.specs.Sizes.{pixel_lanes, row_bytes, half_values, work_values, Fits}
use Rattle.pixels_layout.specs.declared.PixelLayout.{PixelLayout}
use Rattle.pixels_layout.specs.Layout.{place_of, alpha_lane, packed_byte}
use Rattle.pixels_layout.specs.Lanes.{restored_pixel, restored_place}
use Rattle.pixels_layout.proofs.Tabled.{place_lt, place_twice}
use Rattle.pixels_alpha.specs.Alpha.{some_clear, has_alpha}
use Rattle.pixels_alpha.proofs.Flags.{clear_cong}
use Rattle.rows_form.specs.Form.{place_in}
use Rattle.rows_schedule.specs.Schedule.{needed}
use Rattle.rows_schedule.proofs.Needed.{needed_used}
use Rattle.rows.specs.Closed.{scaled}
use Rattle.rows.proofs.Lanes.{place_column, place_lane}
use Rattle.rows_laws.specs.Mean.{exact_sum, total, Near, Premise}
use Rattle.rows_laws.proofs.Held.{held_byte, held_out}
use Rattle.rows_laws.proofs.WorkRows.{row_left_length, row_left_rest}
use Rattle.rows_laws.proofs.Distance.{distance}
use Rattle.rows_laws.proofs.Taken.{taken_pixel, Matted, matte_matted, taken_alpha, taken_opaque, taken_colour}
use Rattle.job_rules.specs.declared.Plan.{Plan}
use Rattle.job_rules.specs.Rules.{lanes_of, form_of, plan_of, plane_of, R}
use Rattle.job.specs.declared.Job.{Job}
use Rattle.job.specs.Record.{Rules}
use Rattle.job.specs.Calls.{scale_by, used_by, row_taken, work_taken}
use Rattle.job_claim.specs.Rows.{source_byte, read_byte, scaled_lane, row_of}
use Rattle.job_claim.proofs.Reading.{shape_of, out_cong, crop_value, crop_value_word, read_byte_small}
use Rattle.job_claim.proofs.Feeding.{Holds}

-- ---- a take: the row that goes out, and what is left
module _ (j : Job) (rules : Rules j) (ready : j.taken < R j.plan j.accepted) where
  row_needs : needed j.plan.crop.height j.plan.target.height j.taken ≡ used_by j
  row_needs =
      needed_used j.plan.crop.y j.plan.crop.height j.plan.target.height j.accepted j.taken rules.sizes.crop_height
      rules.sizes.target_height.some rules.low ready

  pub row_is : (b : ℕ → ℕ) (work : List ℕ) → Holds j.plan b j.accepted j.taken work → row_taken j work ≡ row_of j.plan b j.taken
  unfolding row_taken row_of scaled_lane scaled crop_value
  row_is b work held =
      let p : Plan = j.plan in
      let same = (shape_of p j.accepted j.taken j.flag rules).lanes_form in
      tabulate_cong _ _ (row_bytes (lanes_of p) p.target.width)
      (λ z l. out_cong (form_of p) _ _ p.target.width z (rw same l)
      (λ x u. held_byte (scale_by p) (crop_value p b) (used_by j) j.taken work rules.sizes.crop_height
      rules.sizes.target_height.some row_needs held x (rw same at u)))

  pub left_holds : (b : ℕ → ℕ) (work : List ℕ) → Holds j.plan b j.accepted j.taken work → Holds j.plan b j.accepted (suc j.taken) (work_taken j work)
  unfolding work_taken
  left_holds b work held =
      let p : Plan = j.plan in
      held_out (scale_by p) (crop_value p b) (used_by j) j.taken work rules.sizes.crop_height
      rules.sizes.target_height.some row_needs held (crop_value_word p b rules.sizes)

pub row_taken_length : (j : Job) (work : List ℕ) → length (row_taken j work) ≡ row_bytes (lanes_of j.plan) j.plan.target.width
unfolding row_taken
row_taken_length j work = length_tabulate _ (row_bytes (lanes_of j.plan) j.plan.target.width)

pub left_length : (j : Job) (work : List ℕ) → work_values (lanes_of j.plan) j.plan.target.width ≤ length work → length (work_taken j work) ≡ length work
unfolding work_taken
left_length j work room = row_left_length _ _ _ work (omega arith)

pub left_rest : (j : Job) (work : List ℕ)
    → drop (work_values (lanes_of j.plan) j.plan.target.width) (work_taken j work) ≡ drop (work_values (lanes_of j.plan) j.plan.target.width) work
unfolding work_taken
left_rest j work =
    let half : ℕ = half_values (lanes_of j.plan) j.plan.target.width in
    let both : work_values (lanes_of j.plan) j.plan.target.width ≡ half + half = omega arith in
    rw both (row_left_rest (scale_by j.plan) (used_by j) j.taken work half)

-- ---- near the exact mean: a byte of lane k, column i, of row y, against the bytes read
module _ (p : Plan) (b : ℕ → ℕ) (y i : ℕ) (inside : i < p.target.width) where
  -- the byte as it is handed out
  abbrev pub byte_at : ℕ → ℕ
  byte_at k = get_or (row_of p b y) (lanes_of p * i + place_in (form_of p) k) 0

  -- the byte of that lane before it is restored
  abbrev lane_byte : ℕ → ℕ
  lane_byte k = scaled p.crop.width p.target.width p.crop.height p.target.height (read_byte p b k) i y

  lane_of_lem : (k : ℕ) → k < lanes_of p → scaled_lane p b y (lanes_of p * i + k) ≡ lane_byte k
  unfolding scaled_lane
  lane_of_lem k l = rw (place_lane (lanes_of p) i k l, place_column (lanes_of p) i k l)

  -- the bound on span and heights
  abbrev pub Bound : Type 0
  Bound = Premise (span p.crop.width p.target.width) p.crop.height p.target.height

  abbrev pub NearMean : ℕ → ℕ → Type 0
  NearMean k byte =
      Near byte
      (exact_sum p.crop.width p.target.width p.crop.height p.target.height (read_byte p b k) i y)
      (total p.crop.width p.target.width p.crop.height p.target.height)

  lane_near : Fits p.source p.crop p.target → y < p.target.height → Bound → (k : ℕ) → NearMean k (lane_byte k)
  lane_near fits row premise k =
      distance p.crop.width p.target.width p.crop.height p.target.height (read_byte p b k) i y fits.crop_width fits.crop_height
      (omega (arith, fits.right, fits.source_width.most)) fits.target_width.most fits.target_height.most inside row (λ c i' l u. read_byte_small p b k c i') premise

-- ---- every byte of a plane
module _ (source : Dimensions) (lanes : ℕ) (crop : Rect) (target : Dimensions) (b : ℕ → ℕ) (y i : ℕ) (inside : i < target.width) where
  abbrev plane : Plan
  plane = plane_of source lanes crop target

  pub plane_near : Fits source crop target → y < target.height → Bound plane b y i inside → (k : ℕ) → k < lanes → NearMean plane b y i inside k (byte_at plane b y i inside k)
  unfolding row_of
  plane_near fits row premise k l =
      let next : i + 1 ≤ target.width = omega arith in
      let in_row : lanes * i + k < row_bytes lanes target.width = omega (arith, mul-le-mul_left lanes next) in
      rw (get_d_tabulate (scaled_lane plane b y) (row_bytes lanes target.width) (lanes * i + k) in_row ∙ lane_of_lem plane b y i inside k l) (lane_near plane b y i inside fits row premise k)

-- ---- alpha, and colours beside an alpha of 255, of a picture
module _ (source : Dimensions) (layout : PixelLayout) (crop : Rect) (target : Dimensions) (b : ℕ → ℕ) (y i : ℕ) (inside : i < target.width) where
  abbrev picture : Plan
  picture = plan_of source layout crop target

  abbrev pixel : ℕ
  pixel = taken_pixel crop.width target.width crop.height target.height (read_byte picture b) i y

  row_lane : (k : ℕ) → k < pixel_lanes → byte_at picture b y i inside k ≡ lane_of pixel k
  unfolding row_of restored_place packed_byte restored_pixel
  row_lane k l =
      let small = place_lt layout k l in
      let z : ℕ = pixel_lanes * i + place_of layout k in
      let q : (pixel_lanes * i + place_of layout k) % pixel_lanes ≡ place_of layout k = omega arith in
      let d : (pixel_lanes * i + place_of layout k) / pixel_lanes ≡ i = omega arith in
      get_d_tabulate _ (row_bytes pixel_lanes target.width) z (omega arith)
      ∙ rw (q, d, place_twice layout k l)
      (ap (λ (t : ℕ). lane_of (mult_argb t true) k) (pixel_cong _ _ (lane_of_lem picture b y i inside)))

  -- the alpha survives restoring, whatever the sizes
  pub row_alpha : byte_at picture b y i inside alpha_lane ≡ lane_byte picture b y i inside alpha_lane
  row_alpha =
      row_lane alpha_lane (omega arith) ∙ taken_alpha crop.width target.width crop.height target.height i y (read_byte picture b)

  matted_picture : Matted crop.width crop.height (read_byte picture b)
  unfolding read_byte
  matted_picture = matte_matted crop.width crop.height (λ c i'. pixel_of (source_byte picture b c i'))

  module _ (fits : Fits source crop target) (row : y < target.height) (premise : Bound picture b y i inside) where
    pub alpha_near : NearMean picture b y i inside alpha_lane (byte_at picture b y i inside alpha_lane)
    alpha_near = rw row_alpha (lane_near picture b y i inside fits row premise alpha_lane)

    pub colour_near : byte_at picture b y i inside alpha_lane ≡ 255 → (k : ℕ) → k < alpha_lane → NearMean picture b y i inside k (byte_at picture b y i inside k)
    colour_near opaque k l =
        let e =
        taken_opaque crop.width target.width crop.height target.height i y (read_byte picture b)
        (sym (row_lane alpha_lane (omega arith)) ∙ opaque) k (omega arith) in
        rw (row_lane k (omega arith) ∙ e) (lane_near picture b y i inside fits row premise k)

    -- and no colour is cut as it is restored: there the bytes are the Rust's. An end in itself
    pub colour_not_cut : (k : ℕ) → k < alpha_lane → byte_at picture b y i inside k ≡ scale_colour (lane_byte picture b y i inside k) (restore_factor (lane_byte picture b y i inside alpha_lane))
    colour_not_cut k l =
        row_lane k (omega arith)
        ∙ taken_colour crop.width target.width crop.height target.height i y fits.crop_width fits.target_width.most
        fits.crop_height fits.target_height.most inside row premise (read_byte picture b) matted_picture k l

-- so the flag of an output row is that of its scaled alphas: an end in itself
pub row_flag_lem : (source : Dimensions) (layout : PixelLayout) (crop : Rect) (target : Dimensions) (b : ℕ → ℕ) (y : ℕ)
    → has_alpha layout (row_of (plan_of source layout crop target) b y) target.width
    ≡ some_clear (λ i. scaled crop.width target.width crop.height target.height (read_byte (plan_of source layout crop target) b alpha_lane) i y) target.width
unfolding has_alpha
row_flag_lem source layout crop target b y = clear_cong _ _ target.width (row_alpha source layout crop target b y)
