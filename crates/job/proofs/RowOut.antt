-- An output row goes out of a take that passed its tests: the row is due (its d is in range), so the layer below refuses nothing, and makes the row of the
-- definition. Assumes nothing.
use Prim.Native.Nat.{ℕ}
use mathlib.Core.Path.{◌≡◌, refl, sym, ap, ◌∙◌}
use mathlib.Core.Bool.{Bool, true}
use mathlib.Core.List.{List}
use native.Mathlib.Omega.{arith}
use lib.ListN.{length}
use Rattle.pixels.proofs.Fitting.{size_good}
use Rattle.rows_form.specs.declared.RowForm.{RowForm}
use Rattle.rows_form.specs.Form.{lanes_in, flag_in}
use Rattle.rows_schedule.specs.Schedule.{needed}
use Rattle.rows_schedule.proofs.Needed.{needed_used}
use Rattle.rows_due.specs.Due.{due}
use Rattle.rows_due.proofs.DueRow.{needed_due}
use Rattle.rows_tests.proofs.Passing.{scale_passes}
use Rattle.rows_out.specs.Out.{crop_size, out_number, row_made, out_flag, out_row, out_work}
use Rattle.rows_out.proofs.ScaleRow.{scale_made}
use Rattle.rows_out.proofs.Making.{flag_written, row_written_lem}
use Rattle.job_rules.specs.declared.Plan.{Plan}
use Rattle.job_rules.specs.Rules.{lanes_of, form_of}
use Rattle.job_rules.proofs.KindRules.{lane_count, lanes_form}
use Rattle.job.specs.declared.Job.{Job}
use Rattle.job.specs.Calls.{used_by, row_taken, work_taken, take_number}
use Rattle.job.proofs.Views.{TakeWent, take_went}

module _ (j : Job) (out work : List ℕ) (goes : take_number j (length out) (length work) ≡ 0) where
  abbrev w : TakeWent j out work
  w = take_went j out work goes

  abbrev p : Plan
  p = j.plan

  abbrev h : ℕ
  h = p.crop.height

  abbrev g : ℕ
  g = p.target.height

  -- the crop rows used are those that the row needs
  used_is : needed h g j.taken ≡ used_by j
  used_is =
      needed_used p.crop.y h g j.accepted j.taken w.rules.sizes.crop_height w.rules.sizes.target_height.some w.rules.low w.ready

  row_due : due h g (used_by j) j.taken ≡ true
  row_due =
      ap (λ (u : ℕ). due h g u j.taken) (sym used_is)
      ∙ needed_due h g j.taken w.rules.sizes.crop_height w.rules.sizes.target_height.some

  abbrev form : RowForm
  form = form_of p

  same_lanes : lanes_in form ≡ lanes_of p
  same_lanes = lanes_form p.kind p.layout p.lanes j.flag w.rules.kind_fitting

  out_goes : out_number (lanes_in form) p.crop p.target j.accepted j.taken (length out) (length work) ≡ 0
  out_goes =
      scale_passes (lanes_in form) (crop_size p.crop) p.target (used_by j) j.taken (length out) (length work)
      (record {
        crop_fits =
            size_good (crop_size p.crop)
            (record { some = w.rules.sizes.crop_width; most = omega (arith, w.rules.sizes.right, w.rules.sizes.source_width.most) })
            (record { some = w.rules.sizes.crop_height; most = omega (arith, w.rules.sizes.bottom, w.rules.sizes.source_height.most) });
        target_fits = size_good p.target w.rules.sizes.target_width w.rules.sizes.target_height;
        lane_count = rw same_lanes (lane_count p.kind p.layout p.lanes j.flag w.rules.kind_fitting);
        out_exact = rw same_lanes w.exact;
        work_enough = rw same_lanes w.room;
        ready = row_due;
      })

  row_is : row_made form p.crop p.target j.accepted j.taken work ≡ row_taken j work
  unfolding row_made row_taken
  row_is = rw same_lanes refl

  pub row_out : (row : List ℕ) → row ≡ out_row form p.crop p.target j.accepted j.taken out work → row ≡ row_taken j work
  row_out row e = e ∙ row_written_lem form p.crop p.target j.accepted j.taken out work out_goes ∙ row_is

  pub flag_out : (flag : Bool) → flag ≡ out_flag form p.crop p.target j.accepted j.taken (length out) work
      → flag ≡ flag_in form (row_taken j work) p.target.width
  flag_out flag e =
      e
      ∙ flag_written form p.crop p.target j.accepted j.taken out work out_goes
      ∙ ap (λ (s : List ℕ). flag_in form s p.target.width) row_is

  pub work_out : (next : List ℕ) → next ≡ out_work (lanes_in form) p.crop p.target j.accepted j.taken (length out) work → next ≡ work_taken j work
  unfolding work_taken
  work_out next e = e ∙ (scale_made (lanes_in form) (crop_size p.crop) p.target (used_by j) j.taken out work out_goes).1 ∙ rw same_lanes refl
