-- A source row of an offer that passed its tests comes in: the layer below does not refuse it, and puts it as the definition says. Assumes nothing.
use Prim.Native.Nat.{ℕ, ◌+◌, ◌-◌, ◌≤◌}
use mathlib.Core.Path.{◌≡◌, ◌∙◌}
use mathlib.Core.Bool.{true, false}
use mathlib.Core.Logic.{◌⊎◌, inl, inr}
use mathlib.Core.List.{List}
use native.Mathlib.Omega.{arith}
use native.Mathlib.Nat.{mul-le-mul_left}
use lib.ListN.{length}
use Rattle.pixels.specs.declared.Dimensions.{Dimensions}
use Rattle.rows_form.specs.Form.{lanes_in}
use Rattle.pixels.specs.Sizes.{row_bytes, size_of, Fits}
use Rattle.pixels.proofs.Truths.{test}
use Rattle.pixels.proofs.Fitting.{size_good}
use Rattle.pixels_crop.proofs.Windows.{window_length}
use Rattle.rows_adding.specs.Put.{put_number}
use Rattle.rows_adding.proofs.Putting.{put_fits, put_written}
use Rattle.rows_in.specs.In.{in_crop, part_of, in_work}
use Rattle.job_rules.specs.declared.Plan.{Plan}
use Rattle.job_rules.specs.Rules.{lanes_of, form_of}
use Rattle.job.specs.Calls.{row_accepted}
use Rattle.job.specs.Inner.{RowAsks}

module _ (p : Plan) (row : List ℕ) (s : ℕ) (work : List ℕ) (asks : RowAsks p row work) where
  abbrev fits : Fits p.source p.crop p.target
  fits = asks.fits

  abbrev size : Dimensions
  size = size_of p.crop.width p.crop.height

  abbrev part : List ℕ
  part = part_of (lanes_in (form_of p)) p.crop row

  window_in : row_bytes (lanes_of p) (p.crop.x + p.crop.width) ≤ length row
  window_in = rw asks.long (mul-le-mul_left (lanes_of p) fits.right)

  goes : put_number (lanes_in (form_of p)) size p.target (length part) (length work) ≡ 0
  goes =
      put_fits (lanes_in (form_of p)) size p.target (length part) (length work)
      (record {
        crop_fits =
            size_good size
            (record { some = fits.crop_width; most = omega (arith, fits.right, fits.source_width.most) })
            (record { some = fits.crop_height; most = omega (arith, fits.bottom, fits.source_height.most) });
        target_fits = size_good p.target fits.target_width fits.target_height;
        lane_count = rw asks.lanes_form asks.lane_count;
        row_length = rw asks.lanes_form (window_length (lanes_of p) row p.crop.x p.crop.width window_in);
        work_room = rw asks.lanes_form asks.room;
      })

  pub row_in_lem : in_work (form_of p) p.crop p.target s row work ≡ row_accepted p row s work
  unfolding in_work row_accepted
  row_in_lem = by (test (in_crop p.crop s))
    where
      by : (in_crop p.crop s ≡ true) ⊎ (in_crop p.crop s ≡ false) → in_work (form_of p) p.crop p.target s row work ≡ row_accepted p row s work
      by (inl o) = simp o (put_written (form_of p) size p.target (s - p.crop.y) part work goes ∙ rw asks.lanes_form)
      by (inr o) = simp o
