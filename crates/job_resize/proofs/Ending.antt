-- The end of the job that `resize` drives: with all rows taken the output is the resized picture, the flag its flag, and the work values hold what the last take
-- leaves: every crop row came in, and the last output row leaves nothing over. Assumes nothing.
use Prim.Native.Nat.{ℕ, suc, ◌+◌, ◌-◌, ◌*◌, ◌%◌, ◌≤◌, ◌<◌}
use mathlib.Core.Path.{◌≡◌, refl, sym, ap, ap₂, ◌∙◌, subst}
use mathlib.Core.Logic.{◌⊎◌, inl, inr}
use mathlib.Core.Bool.{cond}
use mathlib.Core.List.{List, ◌++◌, append-nil}
use native.Mathlib.Omega.{arith}
use native.Mathlib.Nat.{le_of_mul-le-mul_right, zero-add}
use lib.Dec.{leb, eqb}
use lib.ListN.{length, get_or, take, drop, drop_of_length-le, take-append-drop, length-drop}
use lib.Seq.{get_or-take, get_or-drop, drop-drop, length-take-le}
use borrow.Author.Tests.{le-leb, lt-leb, eq-eqb, ne_eqb}
use Rattle.arithmetic.specs.Table.{tabulate}
use Rattle.arithmetic.proofs.Orders.{le_or_lt}
use Rattle.arithmetic.proofs.Quotients.{ceil_is}
use Rattle.arithmetic.proofs.Sums.{sum_none_yet}
use Rattle.arithmetic.proofs.Tables.{tabulate_is, tabulate_cong}
use Rattle.arithmetic.specs.Quotient.{ceil}
use Rattle.pixels.specs.declared.Dimensions.{Dimensions}
use Rattle.pixels_layout.specs.declared.PixelLayout.{PixelLayout}
use Rattle.pixels.specs.Sizes.{row_bytes, half_values, work_values}
use Rattle.rows_form.specs.Form.{flag_in}
use Rattle.rows_schedule.specs.Schedule.{used, needed, since}
use Rattle.rows_schedule.proofs.Crop.{rows_most}
use Rattle.rows_schedule.proofs.Needed.{needed_le_made, needed_le, down_low, needed_grow}
use Rattle.rows.specs.Output.{rest_down}
use Rattle.rows.specs.WorkRows.{half_of}
use Rattle.rows.specs.Closed.{newest, share_before, first_half}
use Rattle.rows_laws.proofs.Held.{Held, share_none}
use Rattle.rows_laws.proofs.WorkRows.{parity, half_even, half_odd}
use Rattle.job_rules.specs.declared.Plan.{Plan}
use Rattle.job_rules.specs.Rules.{lanes_of, form_of}
use Rattle.job.specs.declared.Job.{Job}
use Rattle.job_claim.specs.Rows.{rows_of, resize_plan, resized, resized_flag}
use Rattle.job_claim.proofs.Reading.{crop_value}
use Rattle.job_resize.specs.Resize.{row_value_at, last_first, last_second, resized_work}
use Rattle.job_resize.specs.Inner.{Driven}
use Rattle.job_resize.proofs.Going.{bytes_of, Going}
use Rattle.job.specs.Calls.{scale_by}

-- ---- the last output row needs every crop row
pub last_needs : (h g : ℕ) → 0 < h → 0 < g → needed h g (g - 1) ≡ h
last_needs h g ph pg = by (le_or_lt g h)
  where
    by : (g ≤ h) ⊎ (h < g) → needed h g (g - 1) ≡ h
    by (inl m) =
        let low : suc (g - 1) * h ≤ needed h g (g - 1) * g = down_low h g (g - 1) pg m in
        let e : suc (g - 1) ≡ g = omega arith in
        let low' : g * h ≤ needed h g (g - 1) * g = rw e at low in
        let most = needed_le h g (g - 1) ph (omega arith) in
        let least : h ≤ needed h g (g - 1) = le_of_mul-le-mul_right {k = g} (omega arith) pg in
        omega arith
    by (inr m) =
        let c : ceil ((g - 1) * (h - 1)) (g - 1) ≡ h - 1 = ceil_is ((g - 1) * (h - 1)) (g - 1) {q = h - 1} {r = 0} (omega arith) (omega arith) in
        needed_grow h g (g - 1) ph m ∙ rw c (omega arith)

-- ---- the first half at the end: nothing is left over
first_half_end : (h g y : ℕ) (v : ℕ → ℕ) → g ≡ suc y → needed h g y ≡ h → first_half h g v (suc y) h ≡ 0
unfolding first_half share_before since
first_half_end h g y v e n =
    let d : rest_down h g h y ≡ 0 = omega (arith, ap (λ (t : ℕ). h * t) e) in
    rw n (rw (share_none g (rest_down h g h y) (newest v h) d, sum_none_yet v h) refl)

first_half_last : (h g : ℕ) (v : ℕ → ℕ) → 0 < h → 0 < g → first_half h g v g h ≡ 0
first_half_last h g v ph pg =
    let e : g ≡ suc (g - 1) = omega arith in
    ap (λ (y : ℕ). first_half h g v y h) e ∙ first_half_end h g (g - 1) v e (last_needs h g ph pg)

-- ---- a list of work values by its two halves
halves : (w : ℕ) (work : List ℕ) → w + w ≤ length work → work ≡ tabulate (λ x. get_or work x 0) w ++ (tabulate (λ x. get_or work (w + x) 0) w ++ drop (w + w) work)
halves w work room =
    let first : take w work ≡ tabulate (λ x. get_or work x 0) w =
    (let l : length (take w work) ≡ w = length-take-le w work (omega arith) in
    tabulate_is (λ x. get_or work x 0) (take w work) (λ i u. get_or-take w work i 0 (rw l at u)) ∙ ap (tabulate (λ x. get_or work x 0)) l) in
    let second : take w (drop w work) ≡ tabulate (λ x. get_or work (w + x) 0) w =
    (let l : length (take w (drop w work)) ≡ w = length-take-le w (drop w work) (rw length-drop (omega arith)) in
    tabulate_is (λ x. get_or work (w + x) 0) (take w (drop w work)) (λ i u. get_or-take w (drop w work) i 0 (rw l at u) ∙ get_or-drop w work i 0) ∙ ap (tabulate (λ x. get_or work (w + x) 0)) l) in
    sym (take-append-drop w work) ∙ ap₂ ◌++◌ first (sym (take-append-drop w (drop w work)) ∙ ap₂ ◌++◌ second (drop-drop w w work))

-- ---- the halves of the end
module _ (p : Plan) (b : ℕ → ℕ) (work : List ℕ) (ph : 0 < p.crop.height) (pg : 0 < p.target.height) (held : Held (scale_by p) (crop_value p b) p.crop.height p.target.height work) where
  abbrev w : ℕ
  w = half_values (lanes_of p) p.target.width

  abbrev h : ℕ
  h = p.crop.height

  abbrev g : ℕ
  g = p.target.height

  value_is : (x : ℕ) → (λ c. crop_value p b c x) ≡ row_value_at p b x
  unfolding crop_value row_value_at
  value_is x = refl

  pub first_is : (x : ℕ) → x < w → get_or work x 0 ≡ last_first p b x
  unfolding last_first
  first_is x l = by (le_or_lt g h)
    where
      by : (g ≤ h) ⊎ (h < g) → get_or work x 0 ≡ cond (leb g h) 0 (newest (row_value_at p b x) (cond (eqb (h % 2) 0) h (h - 1)))
      by (inl m) = simp (le-leb g h m) (held.first m x l ∙ first_half_last h g (λ c. crop_value p b c x) ph pg)
      by (inr m) = simp (lt-leb g h m) (or (parity h))
        where
          or : (h % 2 ≡ 0) ⊎ (h % 2 ≡ 1) → get_or work x 0 ≡ newest (row_value_at p b x) (cond (eqb (h % 2) 0) h (h - 1))
          or (inl e) =
              let o : suc h % 2 ≡ 1 = omega arith in
              let n : get_or work (half_of w (suc h) + x) 0 ≡ newest (λ c. crop_value p b c x) h = held.newer m x l in
              simp (eq-eqb (h % 2) 0 e)
              (sym (ap (λ (t : ℕ). get_or work t 0) (ap (λ (t : ℕ). t + x) (half_odd w (suc h) o) ∙ zero-add x)) ∙ n ∙ ap (λ (f : ℕ → ℕ). newest f h) (value_is x))
          or (inr e) =
              let n : get_or work (half_of w h + x) 0 ≡ newest (λ c. crop_value p b c x) (h - 1) = held.older m x l in
              simp (ne_eqb (h % 2) 0 (λ z. omega arith))
              (sym (ap (λ (t : ℕ). get_or work t 0) (ap (λ (t : ℕ). t + x) (half_odd w h e) ∙ zero-add x)) ∙ n ∙ ap (λ (f : ℕ → ℕ). newest f (h - 1)) (value_is x))

  pub second_is : (x : ℕ) → x < w → get_or work (w + x) 0 ≡ last_second p b x
  unfolding last_second
  second_is x l = by (le_or_lt g h)
    where
      by : (g ≤ h) ⊎ (h < g) → get_or work (w + x) 0 ≡ cond (leb g h) (newest (row_value_at p b x) h) (newest (row_value_at p b x) (cond (eqb (h % 2) 0) (h - 1) h))
      by (inl m) = simp (le-leb g h m) (held.second m x l ∙ ap (λ (f : ℕ → ℕ). newest f h) (value_is x))
      by (inr m) = simp (lt-leb g h m) (or (parity h))
        where
          or : (h % 2 ≡ 0) ⊎ (h % 2 ≡ 1) → get_or work (w + x) 0 ≡ newest (row_value_at p b x) (cond (eqb (h % 2) 0) (h - 1) h)
          or (inl e) =
              let n : get_or work (half_of w h + x) 0 ≡ newest (λ c. crop_value p b c x) (h - 1) = held.older m x l in
              simp (eq-eqb (h % 2) 0 e)
              (sym (ap (λ (t : ℕ). get_or work (t + x) 0) (half_even w h e)) ∙ n ∙ ap (λ (f : ℕ → ℕ). newest f (h - 1)) (value_is x))
          or (inr e) =
              let o : suc h % 2 ≡ 0 = omega arith in
              let n : get_or work (half_of w (suc h) + x) 0 ≡ newest (λ c. crop_value p b c x) h = held.newer m x l in
              simp (ne_eqb (h % 2) 0 (λ z. omega arith))
              (sym (ap (λ (t : ℕ). get_or work (t + x) 0) (half_even w (suc h) o)) ∙ n ∙ ap (λ (f : ℕ → ℕ). newest f h) (value_is x))

  pub work_is : tabulate (λ x. get_or work x 0) w ++ (tabulate (λ x. get_or work (w + x) 0) w ++ drop (w + w) work)
      ≡ tabulate (last_first p b) w ++ (tabulate (last_second p b) w ++ drop (w + w) work)
  work_is =
      ap₂ ◌++◌ (tabulate_cong _ _ w first_is)
      (ap (λ (s : List ℕ). s ++ drop (w + w) work) (tabulate_cong _ _ w second_is))

-- ---- the end, all rows taken
module _ (p : Plan) (pixels out₀ work₀ : List ℕ) (j : Job) (out work : List ℕ) (g : Going p pixels out₀ work₀ j out work) (all : j.plan.target.height ≤ j.taken) where
  taken_all : j.taken ≡ j.plan.target.height
  taken_all =
      let top = rows_most j.plan.crop.y j.plan.crop.height j.plan.target.height g.rules.sizes.crop_height j.accepted in
      omega (arith, g.rules.high)

  used_all : used j.plan.crop.y j.plan.crop.height j.accepted ≡ j.plan.crop.height
  used_all =
      let ph = g.rules.sizes.crop_height in
      let pg = g.rules.sizes.target_height.some in
      let n = last_needs j.plan.crop.height j.plan.target.height ph pg in
      let u = needed_le_made j.plan.crop.height j.plan.target.height (used j.plan.crop.y j.plan.crop.height j.accepted) (j.plan.target.height - 1) ph pg (omega (arith, g.rules.high)) in
      omega arith

  pub out_end : out ≡ rows_of p (bytes_of pixels) p.target.height
  out_end =
      subst (λ (q : Plan). out ≡ rows_of q (bytes_of pixels) q.target.height) g.plan_is
      (g.made ∙ rw (taken_all, drop_of_length-le out₀ {i = row_bytes (lanes_of j.plan) j.plan.target.width * j.plan.target.height} (omega (arith, g.out_long))) (append-nil (rows_of j.plan (bytes_of pixels) j.plan.target.height)))

  pub flag_end : j.flag ≡ flag_in (form_of p) (rows_of p (bytes_of pixels) p.target.height) (p.target.width * p.target.height)
  flag_end =
      subst (λ (q : Plan). j.flag ≡ flag_in (form_of q) (rows_of q (bytes_of pixels) q.target.height) (q.target.width * q.target.height)) g.plan_is
      (g.flagged ∙ ap (λ (t : ℕ). flag_in (form_of j.plan) (rows_of j.plan (bytes_of pixels) t) (j.plan.target.width * t)) taken_all)

  held_end : Held (scale_by j.plan) (crop_value j.plan (bytes_of pixels)) j.plan.crop.height j.plan.target.height work
  held_end = subst (λ (t : ℕ). Held (scale_by j.plan) (crop_value j.plan (bytes_of pixels)) j.plan.crop.height t work) taken_all
      (subst (λ (u : ℕ). Held (scale_by j.plan) (crop_value j.plan (bytes_of pixels)) u j.taken work) used_all g.held)

  pub work_end : work ≡ tabulate (last_first p (bytes_of pixels)) (half_values (lanes_of p) p.target.width) ++ (tabulate (last_second p (bytes_of pixels)) (half_values (lanes_of p) p.target.width) ++ drop (work_values (lanes_of p) p.target.width) work₀)
  work_end =
      let w : ℕ = half_values (lanes_of j.plan) j.plan.target.width in
      let both : w + w ≡ work_values (lanes_of j.plan) j.plan.target.width = omega arith in
      subst (λ (q : Plan). work ≡ tabulate (last_first q (bytes_of pixels)) (half_values (lanes_of q) q.target.width) ++ (tabulate (last_second q (bytes_of pixels)) (half_values (lanes_of q) q.target.width) ++ drop (work_values (lanes_of q) q.target.width) work₀)) g.plan_is
      (halves w work (omega (arith, g.room))
      ∙ work_is j.plan (bytes_of pixels) work g.rules.sizes.crop_height g.rules.sizes.target_height.some held_end
      ∙ ap (λ (s : List ℕ). tabulate (last_first j.plan (bytes_of pixels)) w ++ (tabulate (last_second j.plan (bytes_of pixels)) w ++ s)) (ap (λ (t : ℕ). drop t work) both ∙ g.rest))

-- ---- in the words of the contract
module _ (source : Dimensions) (layout : PixelLayout) (target : Dimensions) (pixels out₀ work₀ : List ℕ) (j : Job) (out work : List ℕ) (g : Going (resize_plan source layout target) pixels out₀ work₀ j out work) (all : j.plan.target.height ≤ j.taken) where
  pub resized_out : out ≡ resized source layout target pixels
  unfolding resized
  resized_out = out_end (resize_plan source layout target) pixels out₀ work₀ j out work g all

  pub resized_flag_lem : j.flag ≡ resized_flag source layout target pixels
  unfolding resized_flag resized
  resized_flag_lem = flag_end (resize_plan source layout target) pixels out₀ work₀ j out work g all

  pub resized_work_lem : work ≡ resized_work source layout target pixels work₀
  unfolding resized_work
  resized_work_lem = work_end (resize_plan source layout target) pixels out₀ work₀ j out work g all

pub driven : (p : Plan) (pixels out₀ work₀ : List ℕ) (j : Job) (out work : List ℕ) → Going p pixels out₀ work₀ j out work → j.plan.target.height ≤ j.taken → Driven p pixels work₀ j.flag out work
driven p pixels out₀ work₀ j out work g all = record {
  out_is = out_end p pixels out₀ work₀ j out work g all;
  flag_is = flag_end p pixels out₀ work₀ j out work g all;
  work_is = work_end p pixels out₀ work₀ j out work g all;
}
