-- `resize` (SCOPE, "The job"): "a job with the full crop; its work values end as that job's last take leaves them". Its pixels and its flag are
-- claim's `resized` and `resized_flag`; here are its numbers and its work values. Assumes nothing.
use Rattle.std.specs.Prelude.{ℕ, ◌-◌, ◌/◌, ◌%◌, Bool, cond, List, [], ◌∷◌, ◌++◌, eqb, leb, length, get_or, drop}
use Rattle.arithmetic.specs.Table.{tabulate}
use Rattle.pixels.specs.declared.Dimensions.{Dimensions}
use Rattle.pixels_layout.specs.declared.PixelLayout.{PixelLayout}
use Rattle.pixels.specs.declared.Refusal.TheVariants.{PixelBufferMismatch, OutputLength}
use Rattle.pixels.specs.Refusals.{Cause, first, other_length, few_work, flag_if, buffer_if}
use Rattle.pixels.specs.Sizes.{pixel_lanes, half_values, work_values, picture_bytes, sizes_causes}
use Rattle.rows.specs.Column.{value}
use Rattle.rows.specs.Closed.{newest}
use Rattle.job_rules.specs.declared.Plan.{Plan}
use Rattle.job_rules.specs.Rules.{lanes_of}
use Rattle.job_claim.specs.Rows.{full_crop, read_byte, resize_plan, resized, resized_flag}

-- 1, 3, 4, 5 ascending, of n bytes of pixels, m of output and w work values
abbrev pub length_causes : Dimensions → Dimensions → ℕ → ℕ → ℕ → List Cause
length_causes source target n m w =
    other_length n (picture_bytes pixel_lanes source.width source.height) PixelBufferMismatch
    ∷ other_length m (picture_bytes pixel_lanes target.width target.height) OutputLength
    ∷ few_work w (work_values pixel_lanes target.width)
    ∷ []

abbrev pub resize_causes : Dimensions → Dimensions → ℕ → ℕ → ℕ → List Cause
resize_causes source target n m w = sizes_causes source (full_crop source) target ++ length_causes source target n m w

unfoldable pub resize_number : Dimensions → Dimensions → ℕ → ℕ → ℕ → ℕ
resize_number source target n m w = first (resize_causes source target n m w)

-- the value of crop row c at place x of a half, b i being the source's byte i
unfoldable pub row_value_at : Plan → (ℕ → ℕ) → ℕ → ℕ → ℕ
row_value_at p b x c = value (read_byte p b (x % lanes_of p) c) p.crop.width p.target.width (x / lanes_of p)

-- what the last take leaves at place x of the first and of the second half, all h crop rows having come in. Where the height does not grow, nothing is left over
-- in the first half and the second holds the last row; where it grows, each half holds the row that went there last.
unfoldable pub last_first : Plan → (ℕ → ℕ) → ℕ → ℕ
last_first p b x =
    let h : ℕ = p.crop.height in
    cond (leb p.target.height h) 0 (newest (row_value_at p b x) (cond (eqb (h % 2) 0) h (h - 1)))

unfoldable pub last_second : Plan → (ℕ → ℕ) → ℕ → ℕ
last_second p b x =
    let h : ℕ = p.crop.height in
    cond (leb p.target.height h) (newest (row_value_at p b x) h) (newest (row_value_at p b x) (cond (eqb (h % 2) 0) (h - 1) h))

-- the work values afterwards: both halves, "the rest is untouched"
unfoldable pub resized_work : Dimensions → PixelLayout → Dimensions → List ℕ → List ℕ → List ℕ
resized_work source layout target pixels work =
    let p : Plan = resize_plan source layout target in
    let b : ℕ → ℕ = λ i. get_or pixels i 0 in
    let w : ℕ = half_values pixel_lanes target.width in
    tabulate (last_first p b) w ++ (tabulate (last_second p b) w ++ drop (work_values pixel_lanes target.width) work)

-- ---- what `resize` answers and leaves, of m bytes of output and w work values
unfoldable pub resize_flag : Dimensions → PixelLayout → Dimensions → List ℕ → ℕ → ℕ → Bool
resize_flag source layout target pixels m w =
    flag_if (resize_number source target (length pixels) m w) (resized_flag source layout target pixels)

unfoldable pub resize_out : Dimensions → PixelLayout → Dimensions → List ℕ → List ℕ → ℕ → List ℕ
resize_out source layout target pixels out w =
    buffer_if (resize_number source target (length pixels) (length out) w) (resized source layout target pixels) out

unfoldable pub resize_work : Dimensions → PixelLayout → Dimensions → List ℕ → ℕ → List ℕ → List ℕ
resize_work source layout target pixels m work =
    buffer_if (resize_number source target (length pixels) m (length work)) (resized_work source layout target pixels work) work
