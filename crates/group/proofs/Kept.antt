-- A job's own changes keep the length of its part of the work values. Assumes nothing.
use Prim.Native.Nat.{ℕ, zero, suc, ◌+◌, ◌*◌, ◌-◌, ◌≤◌}
use mathlib.Core.Path.{◌≡◌, refl, sym, ◌∙◌, ap}
use mathlib.Core.List.{List}
use mathlib.Core.Bool.{true, false}
use mathlib.Core.Logic.{◌⊎◌, inl, inr, ⊎_elim}
use native.Mathlib.Omega.{arith}
use lib.ListN.{length, take}
use Rattle.pixels.specs.Sizes.{row_bytes, work_values}
use Rattle.pixels.proofs.Truths.{test}
use Rattle.pixels_crop.specs.Crop.{picture_row}
use Rattle.rows_in.specs.In.{in_crop}
use Rattle.rows_laws.proofs.WorkRows.{row_in_length}
use Rattle.job_rules.specs.declared.Plan.{Plan}
use Rattle.job_rules.specs.Rules.{lanes_of}
use Rattle.job.specs.declared.Job.{Job}
use Rattle.job.specs.Calls.{scale_by, values_of, row_accepted, fed, offer_work}
use Rattle.job.proofs.Views.{offer_view}
use Rattle.group_parts.proofs.Cutting.{part_within}

module _ (p : Plan) where
  pub accepted_length : (row : List ℕ) (s : ℕ) (work : List ℕ) → work_values (lanes_of p) p.target.width ≤ length work
      → length (row_accepted p row s work) ≡ length work
  unfolding row_accepted
  accepted_length row s work room = by (test (in_crop p.crop s))
    where
      by : (in_crop p.crop s ≡ true) ⊎ (in_crop p.crop s ≡ false) → length (row_accepted p row s work) ≡ length work
      by (inl e) = simp e (row_in_length (scale_by p) (s - p.crop.y) (values_of p row) work (omega arith))
      by (inr e) = simp e

  -- the rows fed, one after another
  pub fed_none : (rows : List ℕ) (k : ℕ) (work : List ℕ) → fed p rows k 0 work ≡ work
  unfolding fed
  fed_none rows k work = refl

  pub fed_suc : (rows : List ℕ) (k c : ℕ) (work : List ℕ)
      → fed p rows k (suc c) work ≡ row_accepted p (picture_row (lanes_of p) rows p.source.width c) (k + c) (fed p rows k c work)
  unfolding fed
  fed_suc rows k c work = refl

  pub fed_length : (rows : List ℕ) (k c : ℕ) (work : List ℕ) → work_values (lanes_of p) p.target.width ≤ length work → length (fed p rows k c work) ≡ length work
  fed_length rows k zero work room = ap length (fed_none rows k work)
  fed_length rows k (suc c) work room =
      let h : length (fed p rows k c work) ≡ length work = fed_length rows k c work room in
      ap length (fed_suc rows k c work)
      ∙ accepted_length (picture_row (lanes_of p) rows p.source.width c) (k + c) (fed p rows k c work) (omega arith)
      ∙ h

  -- rows that are not fed say nothing
  front_row : (rows : List ℕ) (c n : ℕ) → row_bytes (lanes_of p) p.source.width * suc c ≤ n
      → picture_row (lanes_of p) (take n rows) p.source.width c ≡ picture_row (lanes_of p) rows p.source.width c
  unfolding picture_row
  front_row rows c n l = part_within (row_bytes (lanes_of p) p.source.width * c) (row_bytes (lanes_of p) p.source.width) n rows (omega arith)

  pub fed_front : (rows : List ℕ) (k c n : ℕ) (work : List ℕ) → row_bytes (lanes_of p) p.source.width * c ≤ n
      → fed p (take n rows) k c work ≡ fed p rows k c work
  fed_front rows k zero n work l = fed_none (take n rows) k work ∙ sym (fed_none rows k work)
  fed_front rows k (suc c) n work l =
      fed_suc (take n rows) k c work
      ∙ ap (λ (x : List ℕ). row_accepted p x (k + c) (fed p (take n rows) k c work)) (front_row rows c n l)
      ∙ ap (λ (x : List ℕ). row_accepted p (picture_row (lanes_of p) rows p.source.width c) (k + c) x) (fed_front rows k c n work (omega arith))
      ∙ sym (fed_suc rows k c work)

pub offer_length : (j : Job) (rows work : List ℕ) → length (offer_work j rows work) ≡ length work
offer_length j rows work =
    ⊎_elim (λ t. ap length t.kept) (λ q. ap length q.work_after ∙ fed_length j.plan rows _ _ work q.room) (offer_view j rows work)
