-- What the private functions of a job ask. Assumes nothing.
use Rattle.std.specs.Prelude.{ℕ, ◌≤◌, ◌≡◌, List, length}
use Rattle.pixels.specs.Sizes.{row_bytes, work_values, Fits, LaneCount}
use Rattle.rows_form.specs.Form.{lanes_in}
use Rattle.job_rules.specs.declared.Plan.{Plan}
use Rattle.job_rules.specs.Rules.{lanes_of, form_of}

-- a source row as lent, and enough work values
pub record RowAsks (p : Plan) (row work : List ℕ) : Type 0 where
  pub fits : Fits p.source p.crop p.target
  pub lane_count : LaneCount (lanes_of p)
  pub lanes_form : lanes_in (form_of p) ≡ lanes_of p
  pub long : length row ≡ row_bytes (lanes_of p) p.source.width
  pub room : work_values (lanes_of p) p.target.width ≤ length work
