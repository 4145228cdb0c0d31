-- A source row put into the second half and not added (SCOPE, "Bands"): it comes in as the first of two rows that one crop row grows to; and what then stands at
-- each place. Assumes nothing.
use Prim.Native.Nat.{ℕ, ◌+◌, ◌≤◌, ◌<◌}
use mathlib.Core.Path.{◌≡◌, refl, ◌∙◌}
use mathlib.Core.List.{List}
use native.Mathlib.Omega.{arith}
use native.Mathlib.Nat.{zero-add}
use lib.ListN.{length, get_or, drop}
use Rattle.pixels.specs.Sizes.{half_values, size_of, rect_of}
use Rattle.rows.specs.WorkRows.{row_in}
use Rattle.rows_form.specs.declared.RowForm.{RowForm}
use Rattle.rows_in.specs.In.{in_work}
use Rattle.rows_laws.proofs.WorkRows.{in_own, in_other, row_in_length, row_in_rest}
use Rattle.job_rules.specs.declared.Plan.{Plan}
use Rattle.job_rules.specs.Rules.{lanes_of, form_of}
use Rattle.job.specs.Calls.{scale_by, values_of, row_accepted}
use Rattle.job.specs.Inner.{RowAsks}
use Rattle.job.proofs.RowIn.{row_in_lem}
use Rattle.job_band.specs.Inner.{second_put}

-- one crop row of the same source that grows to two: its row goes to the second half, and no half is added
abbrev grown : Plan → Plan
grown p = record {
  source = p.source;
  layout = p.layout;
  crop = rect_of p.crop.x 0 p.crop.width 1;
  target = size_of p.target.width 2;
  kind = p.kind;
  lanes = p.lanes;
}

-- ---- as the code puts it
module _ (p : Plan) (row work : List ℕ) (asks : RowAsks p row work) where
  asks_grown : RowAsks (grown p) row work
  asks_grown = record {
    fits = record {
      source_width = asks.fits.source_width;
      source_height = asks.fits.source_height;
      target_width = asks.fits.target_width;
      target_height = record { some = omega arith; most = omega arith };
      crop_width = asks.fits.crop_width;
      crop_height = omega arith;
      right = asks.fits.right;
      bottom = asks.fits.source_height.some;
    };
    lane_count = asks.lane_count;
    lanes_form = asks.lanes_form;
    long = asks.long;
    room = asks.room;
  }

  second_is : row_accepted (grown p) row 0 work ≡ second_put p row work
  unfolding row_accepted row_in second_put
  second_is = refl

  -- form is what the code has for the form of the rows
  pub second_written : (form : RowForm) → form ≡ form_of p → (next : List ℕ) → next ≡ in_work form (grown p).crop (grown p).target 0 row work → next ≡ second_put p row work
  second_written form form-is next next_is = next_is ∙ rw form-is (row_in_lem (grown p) row 0 work asks_grown ∙ second_is)

-- ---- place by place
module _ (p : Plan) (row work : List ℕ) (room : half_values (lanes_of p) p.target.width + half_values (lanes_of p) p.target.width ≤ length work) where
  as_grown : second_put p row work ≡ row_in (scale_by (grown p)) 0 (values_of p row) work
  unfolding second_put row_in
  as_grown = refl

  pub second_first : (x : ℕ) → x < half_values (lanes_of p) p.target.width → get_or (second_put p row work) x 0 ≡ get_or work x 0
  second_first x l = rw as_grown (rw zero-add at (in_other (scale_by (grown p)) 0 (values_of p row) work room (omega arith) x l))

  pub second_second : (x : ℕ) → x < half_values (lanes_of p) p.target.width → get_or (second_put p row work) (half_values (lanes_of p) p.target.width + x) 0 ≡ values_of p row x
  second_second x l = rw as_grown (in_own (scale_by (grown p)) 0 (values_of p row) work room (omega arith) x l)

  pub second_length : length (second_put p row work) ≡ length work
  second_length = rw as_grown (row_in_length (scale_by (grown p)) 0 (values_of p row) work room)

  pub second_rest : drop (half_values (lanes_of p) p.target.width + half_values (lanes_of p) p.target.width) (second_put p row work)
      ≡ drop (half_values (lanes_of p) p.target.width + half_values (lanes_of p) p.target.width) work
  second_rest = rw as_grown (row_in_rest (scale_by (grown p)) 0 (values_of p row) work room)
