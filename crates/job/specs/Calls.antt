-- What offer and take answer and leave in every buffer (SCOPE, "The job", "Why a call is turned away", "A row comes in", "A row goes out" and
-- "The list of demand 3"), for every record and any contents of the work values. Assumes nothing.
use Rattle.std.specs.Prelude.{ℕ, zero, suc, ◌+◌, ◌-◌, ◌/◌, min, Bool, cond, ◌||◌, List, eqb, ltb, length}
use Rattle.arithmetic.specs.Table.{tabulate}
use Rattle.arithmetic.specs.Weight.{span}
use Rattle.pixels.specs.Sizes.{row_bytes, half_values}
use Rattle.pixels_crop.specs.Crop.{window_of, picture_row}
use Rattle.rows_schedule.specs.Schedule.{used}
use Rattle.rows_form.specs.Form.{lane_in, place_out, flag_in}
use Rattle.rows.specs.Lanes.{row_value}
use Rattle.rows.specs.WorkRows.{Scale, row_in, byte_out, row_left}
use Rattle.rows_in.specs.In.{in_crop}
use Rattle.job_rules.specs.declared.Plan.{Plan}
use Rattle.job_rules.specs.Rules.{lanes_of, form_of, R, offer_number_of, take_number_of}
use Rattle.job.specs.declared.Job.{Job}

-- ---- a row comes in

-- what the job's rows are scaled by
abbrev pub scale_by : Plan → Scale
scale_by p = record {
  span = span p.crop.width p.target.width;
  h = p.crop.height;
  g = p.target.height;
  w = half_values (lanes_of p) p.target.width;
}

-- the values of a source row: its crop window, matted where it is a picture's, each lane alone
abbrev pub values_of : Plan → List ℕ → ℕ → ℕ
values_of p row =
    row_value (lanes_of p) (lane_in (form_of p) (window_of (lanes_of p) row p.crop.x p.crop.width)) p.crop.width p.target.width

-- source row s, its bytes being row: "Rows outside the crop count and touch no work value"
unfoldable pub row_accepted : Plan → List ℕ → ℕ → List ℕ → List ℕ
row_accepted p row s work =
    cond (in_crop p.crop s)
    (row_in (scale_by p) (s - p.crop.y) (values_of p row) work)
    work

-- the first c of the rows lent, the first of them being source row k
unfoldable pub fed : Plan → List ℕ → ℕ → ℕ → List ℕ → List ℕ
fed p rows k zero work = work
fed p rows k (suc c) work = row_accepted p (picture_row (lanes_of p) rows p.source.width c) (k + c) (fed p rows k c work)

-- ---- offer

-- of n bytes lent and w work values
abbrev pub offer_number : Job → ℕ → ℕ → ℕ
offer_number j n w = offer_number_of j.plan j.accepted j.taken j.flag n w

-- the least number from c up, among n of them, for which the test is true; the one after them where there is none
unfoldable pub least : (ℕ → Bool) → ℕ → ℕ → ℕ
least test c zero = c
least test c (suc n) = cond (test c) c (least test (suc c) n)

-- "It stops at the first row that makes an output row ready, at the last offered or at the source's last": the smaller of the most rows there may be and
-- "the least c from 1 up for which R(accepted before it + c) is above taken". Of the rows' function R, the rows accepted k and the rows taken t.
unfoldable pub counted : (ℕ → ℕ) → ℕ → ℕ → ℕ → ℕ
counted r k t most = min most (least (λ c. ltb t (r (k + c))) 1 most)

abbrev pub lent_rows : Plan → ℕ → ℕ
lent_rows p n = n / row_bytes (lanes_of p) p.source.width

-- the rows lent or those that the source has left, whichever are fewer
abbrev pub most_rows : Job → ℕ → ℕ
most_rows j n = min (lent_rows j.plan n) (j.plan.source.height - j.accepted)

abbrev pub count : Job → ℕ → ℕ
count j n = counted (R j.plan) j.accepted j.taken (most_rows j n)

-- the record with c rows more
abbrev pub more_accepted : Job → ℕ → Job
more_accepted j c = record { plan = j.plan; accepted = j.accepted + c; taken = j.taken; flag = j.flag }

unfoldable pub offer_rows : Job → ℕ → ℕ → ℕ
offer_rows j n w = cond (eqb (offer_number j n w) 0) (count j n) 0

unfoldable pub offer_job : Job → ℕ → ℕ → Job
offer_job j n w = cond (eqb (offer_number j n w) 0) (more_accepted j (count j n)) j

unfoldable pub offer_work : Job → List ℕ → List ℕ → List ℕ
offer_work j rows work =
    cond (eqb (offer_number j (length rows) (length work)) 0)
    (fed j.plan rows j.accepted (count j (length rows)) work)
    work

-- ---- take

-- of n bytes of output and w work values
abbrev pub take_number : Job → ℕ → ℕ → ℕ
take_number j n w = take_number_of j.plan j.accepted j.taken j.flag n w

-- u, the crop rows used
abbrev pub used_by : Job → ℕ
used_by j = used j.plan.crop.y j.plan.crop.height j.accepted

-- the lanes of the row that goes out, a picture's "then restored and packed"
unfoldable pub row_taken : Job → List ℕ → List ℕ
row_taken j work =
    let p : Plan = j.plan in
    tabulate (place_out (form_of p) (byte_out (scale_by p) (used_by j) j.taken work)) (row_bytes (lanes_of p) p.target.width)

-- the work rows afterwards
unfoldable pub work_taken : Job → List ℕ → List ℕ
work_taken j work = row_left (scale_by j.plan) (used_by j) j.taken work

-- the record with one row more taken, row being its bytes
abbrev pub more_taken : Job → List ℕ → Job
more_taken j row = record {
  plan = j.plan;
  accepted = j.accepted;
  taken = j.taken + 1;
  flag = j.flag || flag_in (form_of j.plan) row j.plan.target.width;
}

unfoldable pub take_job : Job → ℕ → List ℕ → Job
take_job j n work = cond (eqb (take_number j n (length work)) 0) (more_taken j (row_taken j work)) j

unfoldable pub take_out : Job → List ℕ → List ℕ → List ℕ
take_out j out work = cond (eqb (take_number j (length out) (length work)) 0) (row_taken j work) out

unfoldable pub take_work : Job → ℕ → List ℕ → List ℕ
take_work j n work = cond (eqb (take_number j n (length work)) 0) (work_taken j work) work
