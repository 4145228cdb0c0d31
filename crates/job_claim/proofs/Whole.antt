-- The rows of a job are the rows of crop then resize (SCOPE, "The job": "`resize` is a job with the full crop"). Why: byte z of row c of the cropped
-- picture is the source's byte of that place counted from the crop's corner, so both have the same matted bytes; and the closed form of an output row
-- reads no row or column beyond the crop. Assumes nothing.
use Prim.Native.Nat.{ℕ, zero, suc, ◌+◌, ◌-◌, ◌*◌, ◌/◌, ◌%◌, ◌≤◌, ◌<◌}
use mathlib.Core.Path.{◌≡◌, refl, sym, ap, ap₂, ◌∙◌}
use mathlib.Core.Bool.{Bool, false}
use mathlib.Core.Logic.{◌⊎◌, inl, inr, ⊎_elim}
use mathlib.Core.List.{List, [], ◌∷◌, ◌++◌}
use native.Mathlib.Omega.{arith}
use native.Mathlib.Nat.{mul-le-mul_left, le_of_mul-le-mul_right, le_of_suc-le-suc, eq-or-lt_of_le}
use lib.ListN.{length, get_or, take, length-append, get_or-append}
use lib.Seq.{length-take-le, take-suc, take_all, get_or-take, get_or-append-add}
use Rattle.arithmetic.specs.Matte.{lane_of, mult_argb}
use Rattle.arithmetic.specs.Weight.{span}
use Rattle.arithmetic.proofs.Tables.{length_tabulate, tabulate_cong}
use Rattle.pixels.specs.declared.Dimensions.{Dimensions}
use Rattle.pixels.specs.declared.Rect.{Rect}
use Rattle.pixels_layout.specs.declared.PixelLayout.{PixelLayout}
use Rattle.pixels.specs.Sizes.{pixel_lanes, row_bytes, picture_bytes, half_values, size_of, Fits}
use Rattle.pixels_layout.specs.Layout.{place_of}
use Rattle.pixels_layout.specs.Lanes.{restored_place}
use Rattle.rows_form.specs.Form.{place_out}
use Rattle.pixels_alpha.specs.Alpha.{has_alpha}
use Rattle.pixels_crop.specs.Crop.{window_of, picture_row, cropped_rows, cropped}
use Rattle.pixels_layout.proofs.Tabled.{place_lt}
use Rattle.arithmetic.proofs.Orders.{le_or_lt}
use Rattle.rows_schedule.specs.Schedule.{used, rows_by, needed}
use Rattle.rows_schedule.proofs.Needed.{needed_le, needed_le_made, needed_some, down_low, up_low}
use Rattle.rows.specs.Column.{value}
use Rattle.rows.specs.Closed.{scaled}
use Rattle.rows_laws.proofs.Reach.{scaled_byte_same}
use Rattle.job_rules.specs.declared.Plan.{Plan}
use Rattle.job_rules.specs.Rules.{lanes_of, form_of, plan_of}
use Rattle.job_claim.specs.Rows.{source_byte, read_byte, scaled_lane, row_of, joined, rows_of, resize_plan, resized, resized_flag}
use Rattle.job_claim.specs.Calls.{Seen}
use Rattle.arithmetic.proofs.Mattes.{pixel_cong}
use Rattle.pixels_layout.proofs.Matted.{restored_cong}
use Rattle.pixels_crop.proofs.Windows.{window_byte, window_length}
use Rattle.job_claim.proofs.Reading.{value_cong}
use Rattle.job_claim.proofs.Feeding.{row_length, row_byte}
use Rattle.job_claim.proofs.Flagged.{joined_append}
use Rattle.job_claim.proofs.Invariant.{Inv}

-- ---- the cropped picture

-- row c of the crop, and where its byte z stands in a picture w pixels wide
abbrev crop_row : List ℕ → ℕ → Rect → ℕ → List ℕ
crop_row pixels w crop c = window_of pixel_lanes (picture_row pixel_lanes pixels w (crop.y + c)) crop.x crop.width

abbrev crop_place : ℕ → Rect → ℕ → ℕ → ℕ
crop_place w crop c z = row_bytes pixel_lanes w * (crop.y + c) + (row_bytes pixel_lanes crop.x + z)

-- `long`: the pixels reach to the crop's last row
module _ (source : Dimensions) (crop : Rect) (target : Dimensions) (pixels : List ℕ) (fits : Fits source crop target) (long : picture_bytes pixel_lanes source.width (crop.y + crop.height) ≤ length pixels) where
  module _ (c : ℕ) (in-crop : c < crop.height) where
    here : crop.y + c < crop.y + crop.height
    here = omega arith

    inside : row_bytes pixel_lanes (crop.x + crop.width) ≤ length (picture_row pixel_lanes pixels source.width (crop.y + c))
    inside = rw (row_length pixel_lanes pixels source.width (crop.y + crop.height) (crop.y + c) long here) (mul-le-mul_left pixel_lanes fits.right)

    part_length : length (crop_row pixels source.width crop c) ≡ row_bytes pixel_lanes crop.width
    part_length = window_length pixel_lanes (picture_row pixel_lanes pixels source.width (crop.y + c)) crop.x crop.width inside

    part_byte : (z : ℕ) → z < row_bytes pixel_lanes crop.width → get_or (crop_row pixels source.width crop c) z 0 ≡ get_or pixels (crop_place source.width crop c z) 0
    part_byte z l =
        window_byte pixel_lanes (picture_row pixel_lanes pixels source.width (crop.y + c)) crop.x crop.width inside z l
        ∙ row_byte pixel_lanes pixels source.width (crop.y + crop.height) (crop.y + c) long here (row_bytes pixel_lanes crop.x + z) (omega (arith, fits.right))

  -- the first n rows of the crop
  parts_length : (n : ℕ) → n ≤ crop.height → length (cropped_rows pixels source.width crop n) ≡ row_bytes pixel_lanes crop.width * n
  unfolding cropped_rows
  parts_length zero le = omega arith
  parts_length (suc n) le =
      omega (arith, length-append (cropped_rows pixels source.width crop n) (crop_row pixels source.width crop n), parts_length n (omega arith), part_length n le)

  parts_byte : (n : ℕ) → n ≤ crop.height → (c z : ℕ) → c < n → z < row_bytes pixel_lanes crop.width
      → get_or (cropped_rows pixels source.width crop n) (row_bytes pixel_lanes crop.width * c + z) 0 ≡ get_or pixels (crop_place source.width crop c z) 0
  unfolding cropped_rows
  parts_byte zero le c z l u = absurd (omega arith)
  parts_byte (suc n) le c z l u =
      let before : List ℕ = cropped_rows pixels source.width crop n in
      let many : length before ≡ row_bytes pixel_lanes crop.width * n = parts_length n (omega arith) in
      ⊎_elim
      (λ e.
      let at : row_bytes pixel_lanes crop.width * c + z ≡ length before + z = ap (λ (t : ℕ). row_bytes pixel_lanes crop.width * t + z) e ∙ omega arith in
      rw at (get_or-append-add before (crop_row pixels source.width crop n) z 0)
      ∙ part_byte n le z u
      ∙ ap (λ (t : ℕ). get_or pixels (crop_place source.width crop t z) 0) (sym e))
      (λ m.
      get_or-append before (crop_row pixels source.width crop n) 0 (row_bytes pixel_lanes crop.width * c + z) (omega (arith, mul-le-mul_left (row_bytes pixel_lanes crop.width) m))
      ∙ parts_byte n (omega arith) c z m u)
      (eq-or-lt_of_le (le_of_suc-le-suc l))

  pub cropped_byte : (c z : ℕ) → c < crop.height → z < row_bytes pixel_lanes crop.width
      → get_or (cropped source crop pixels) (row_bytes pixel_lanes crop.width * c + z) 0 ≡ get_or pixels (row_bytes pixel_lanes source.width * (crop.y + c) + (row_bytes pixel_lanes crop.x + z)) 0
  unfolding cropped
  cropped_byte c z l u = parts_byte crop.height (omega arith) c z l u

-- ---- the closed form looks at the pixels of the crop alone
pub scaled_cong : (n m h g : ℕ) (p q : ℕ → ℕ → ℕ) (j y : ℕ) → 0 < h → j < m → y < g
    → ((c i : ℕ) → c < h → i < n → p c i ≡ q c i) → scaled n m h g p j y ≡ scaled n m h g q j y
unfolding scaled
scaled_cong n m h g p q j y some within below same =
    scaled_byte_same h g (λ c. value (p c) n m j) (λ c. value (q c) n m j) (span n m) y some (omega arith)
    (λ c l. value_cong (p c) (q c) n m j within (λ i u. same c i (omega (arith, needed_le h g y some below)) u))

-- ---- rows one after another
pub row_of_length : (p : Plan) (b : ℕ → ℕ) (y : ℕ) → length (row_of p b y) ≡ row_bytes (lanes_of p) p.target.width
unfolding row_of
row_of_length p b y = length_tabulate (place_out (form_of p) (scaled_lane p b y)) (row_bytes (lanes_of p) p.target.width)

pub rows_of_cong : (p q : Plan) (b d : ℕ → ℕ) (n : ℕ) → ((y : ℕ) → y < n → row_of p b y ≡ row_of q d y) → rows_of p b n ≡ rows_of q d n
unfolding rows_of
rows_of_cong p q b d zero same = refl
rows_of_cong p q b d (suc n) same = ap₂ ◌++◌ (rows_of_cong p q b d n (λ y l. same y (omega arith))) (same n (omega arith))

pub rows_of_joined : (p : Plan) (b : ℕ → ℕ) (rows : List (List ℕ)) (n : ℕ) → length rows ≡ n → ((y : ℕ) → y < n → get_or rows y [] ≡ row_of p b y) → joined rows ≡ rows_of p b n
unfolding rows_of joined
rows_of_joined p b [] zero long same = refl
rows_of_joined p b (row ∷ rows) zero long same = absurd (omega arith)
rows_of_joined p b rows (suc n) long same =
    let e : rows ≡ take n rows ++ (get_or rows n [] ∷ []) = sym (take_all (suc n) rows (omega arith)) ∙ take-suc rows n [] (omega arith) in
    ap joined e
    ∙ joined_append (take n rows) (get_or rows n [])
    ∙ ap₂ ◌++◌
    (rows_of_joined p b (take n rows) n (length-take-le n rows (omega arith)) (λ y l. get_or-take n rows y [] l ∙ same y (omega arith)))
    (same n (omega arith))

-- ---- the job of plan p over the source's bytes, and `resize` over the cropped bytes
abbrev pub whole_plan : Plan → Plan
whole_plan p = resize_plan (size_of p.crop.width p.crop.height) p.layout p.target

abbrev pub source_of : List ℕ → ℕ → ℕ
source_of pixels i = get_or pixels i 0

abbrev pub cropped_of : Plan → List ℕ → ℕ → ℕ
cropped_of p pixels i = get_or (cropped p.source p.crop pixels) i 0

module _ (source : Dimensions) (layout : PixelLayout) (crop : Rect) (target : Dimensions) (pixels : List ℕ) (fits : Fits source crop target) (long : picture_bytes pixel_lanes source.width (crop.y + crop.height) ≤ length pixels) where
  abbrev p : Plan
  p = plan_of source layout crop target

  same_byte : (c i k : ℕ) → c < p.crop.height → i < p.crop.width → k < pixel_lanes
      → source_byte p (source_of pixels) c i k ≡ source_byte (whole_plan p) (cropped_of p pixels) c i k
  same_byte c i k l u v =
      let small = place_lt p.layout k v in
      let at : pixel_lanes * (p.crop.x + i) + place_of p.layout k ≡ row_bytes pixel_lanes p.crop.x + (pixel_lanes * i + place_of p.layout k) = omega arith in
      let at_row : 0 + c ≡ c = omega arith in
      let at-column : 0 + i ≡ i = omega arith in
      rw (at, at_row, at-column)
      (sym (cropped_byte p.source p.crop p.target pixels fits long c (pixel_lanes * i + place_of p.layout k) l (omega arith)))

  pub read_same : (k c i : ℕ) → c < p.crop.height → i < p.crop.width
      → read_byte p (source_of pixels) k c i ≡ read_byte (whole_plan p) (cropped_of p pixels) k c i
  unfolding read_byte
  read_same k c i l u =
      ap (λ (t : ℕ). lane_of (mult_argb t false) k)
      (pixel_cong (source_byte p (source_of pixels) c i) (source_byte (whole_plan p) (cropped_of p pixels) c i) (λ k' v. same_byte c i k' l u v))

  lane_same : (y x : ℕ) → y < p.target.height → x < half_values (lanes_of p) p.target.width
      → scaled_lane p (source_of pixels) y x ≡ scaled_lane (whole_plan p) (cropped_of p pixels) y x
  unfolding scaled_lane
  lane_same y x l u =
      scaled_cong p.crop.width p.target.width p.crop.height p.target.height
      (read_byte p (source_of pixels) (x % pixel_lanes)) (read_byte (whole_plan p) (cropped_of p pixels) (x % pixel_lanes)) (x / pixel_lanes) y
      fits.crop_height (omega arith) l (λ c i a b. read_same (x % pixel_lanes) c i a b)

  pub row_same : (y : ℕ) → y < p.target.height → row_of p (source_of pixels) y ≡ row_of (whole_plan p) (cropped_of p pixels) y
  unfolding row_of
  row_same y l =
      let v : ℕ → ℕ = scaled_lane p (source_of pixels) y in
      let w : ℕ → ℕ = scaled_lane (whole_plan p) (cropped_of p pixels) y in
      tabulate_cong (restored_place p.layout v) (restored_place p.layout w) (row_bytes (lanes_of p) p.target.width)
      (λ z u. restored_cong p.layout v w p.target.width z u (λ x h. lane_same y x l h))

  -- the rows handed out, all of them there
  module _ (rows : List (List ℕ)) (all : length rows ≡ p.target.height) (are : (y : ℕ) → y < p.target.height → get_or rows y [] ≡ row_of p (λ i. get_or pixels i 0) y) where
    pub crop_then_resize : joined rows ≡ resized (size_of p.crop.width p.crop.height) p.layout p.target (cropped p.source p.crop pixels)
    unfolding resized
    crop_then_resize =
        rows_of_joined p (source_of pixels) rows p.target.height all are
        ∙ rows_of_cong p (whole_plan p) (source_of pixels) (cropped_of p pixels) p.target.height row_same

    pub crop_then_resize_flag : (f : Bool) → f ≡ has_alpha p.layout (joined rows) (p.target.width * p.target.height)
        → f ≡ resized_flag (size_of p.crop.width p.crop.height) p.layout p.target (cropped p.source p.crop pixels)
    unfolding resized_flag
    crop_then_resize_flag f flag =
        flag ∙ ap (λ (s : List ℕ). has_alpha p.layout s (p.target.width * p.target.height)) crop_then_resize

-- ---- all rows are made only once the crop's last row came
rows_reach : (top h g k : ℕ) → 0 < h → 0 < g → g ≤ rows_by top h g k → top + h ≤ k
rows_reach top h g k ph pg all =
    let y : ℕ = g - 1 in
    let used_all : needed h g y ≤ used top h k = needed_le_made h g (used top h k) y ph pg (omega arith) in
    omega (arith, last_needs (le_or_lt g h))
  where
    last_needs : (g ≤ h) ⊎ (h < g) → h ≤ needed h g (g - 1)
    last_needs (inl l) =
        let e : suc (g - 1) ≡ g = omega arith in
        let q : g * h ≤ needed h g (g - 1) * g = rw e at (down_low h g (g - 1) pg l) in
        le_of_mul-le-mul_right {m = h} {n = needed h g (g - 1)} {k = g} (omega arith) pg
    last_needs (inr l) =
        let q : h - 1 ≤ needed h g (g - 1) - 1 = le_of_mul-le-mul_right {m = h - 1} {n = needed h g (g - 1) - 1} {k = g - 1} (omega (arith, up_low h g (g - 1) ph l)) (omega arith) in
        omega (arith, needed_some h g (g - 1) ph pg)

-- ---- at the end of a list of calls, from what was counted, whatever bytes may follow the accepted ones
module _ (source : Dimensions) (layout : PixelLayout) (crop : Rect) (target : Dimensions) (s : Seen) (work : List ℕ) (v : Inv (plan_of source layout crop target) s work) (all-taken : s.taken ≡ target.height)
    (more : List ℕ) where
  abbrev job : Plan
  job = plan_of source layout crop target

  long : picture_bytes pixel_lanes source.width (crop.y + crop.height) ≤ length (s.source ++ more)
  long =
      let sizes = v.rules.sizes in
      let reach = rows_reach crop.y crop.height target.height s.accepted sizes.crop_height sizes.target_height.some (omega (arith, v.rules.high)) in
      omega (arith, length-append s.source more, v.bytes, mul-le-mul_left (row_bytes pixel_lanes source.width) reach)

  rows_are : (y : ℕ) → y < target.height → get_or s.rows y [] ≡ row_of job (λ i. get_or (s.source ++ more) i 0) y
  rows_are y l = v.handed (λ i. get_or (s.source ++ more) i 0) (λ i u. sym (get_or-append s.source more 0 i u)) y (omega arith)

  pub seen_whole : joined s.rows ≡ resized (size_of crop.width crop.height) layout target (cropped source crop (s.source ++ more))
  seen_whole = crop_then_resize source layout crop target (s.source ++ more) v.rules.sizes long s.rows (v.outs ∙ all-taken) rows_are

  pub seen_whole_flag : s.flag ≡ resized_flag (size_of crop.width crop.height) layout target (cropped source crop (s.source ++ more))
  seen_whole_flag =
      crop_then_resize_flag source layout crop target (s.source ++ more) v.rules.sizes long s.rows (v.outs ∙ all-taken) rows_are s.flag (rw all-taken at v.flagged)
