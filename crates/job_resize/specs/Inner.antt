-- What the private functions of `resize` ask and ensure. Assumes nothing.
use Rattle.std.specs.Prelude.{ℕ, ◌*◌, ◌≤◌, ◌≡◌, Bool, true, false, cond, List, ◌++◌, eqb, length, get_or, take, drop}
use Rattle.arithmetic.specs.Table.{tabulate}
use Rattle.pixels.specs.Sizes.{row_bytes, half_values, work_values, picture_bytes, Fits}
use Rattle.rows_form.specs.Form.{flag_in}
use Rattle.job_rules.specs.declared.Plan.{Plan}
use Rattle.job_rules.specs.Rules.{lanes_of, form_of, kind_fits}
use Rattle.job.specs.declared.Job.{Job}
use Rattle.job.specs.Record.{fresh, ready_of}
use Rattle.job.specs.Calls.{offer_job, offer_work, take_out}
use Rattle.job_start.specs.Start.{cleared}
use Rattle.job_claim.specs.Rows.{rows_of}
use Rattle.job_resize.specs.Resize.{last_first, last_second}

-- the source rows that the job has not accepted
abbrev pub rest_of : Job → List ℕ → List ℕ
rest_of j pixels = drop (row_bytes (lanes_of j.plan) j.plan.source.width * j.accepted) pixels

-- where no row is ready, all of them are offered
unfoldable pub fed_job : Job → List ℕ → ℕ → Job
fed_job j pixels w = cond (eqb (ready_of j) 0) (offer_job j (length (rest_of j pixels)) w) j

unfoldable pub fed_work : Job → List ℕ → List ℕ → List ℕ
fed_work j pixels work = cond (eqb (ready_of j) 0) (offer_work j (rest_of j pixels) work) work

-- the bytes of an output row, and the output from the place of the next row on
abbrev pub row_size : Job → ℕ
row_size j = row_bytes (lanes_of j.plan) j.plan.target.width

abbrev pub from_next : Job → List ℕ → List ℕ
from_next j out = drop (row_size j * j.taken) out

-- the next row taken into its place of the output
abbrev pub emitted_out : Job → List ℕ → List ℕ → List ℕ
emitted_out j out work =
    take (row_size j * j.taken) out ++ (take_out j (take (row_size j) (from_next j out)) work ++ drop (row_size j) (from_next j out))

-- a fresh job and buffers of the right length, the work rows as start leaves them
pub record Asked (j : Job) (pixels out work : List ℕ) : Type 0 where
  pub fresh_is : j ≡ fresh j.plan
  pub sizes : Fits j.plan.source j.plan.crop j.plan.target
  pub kind_fitting : kind_fits j.plan.kind j.plan.layout j.plan.lanes false ≡ true
  pub pixels_long : length pixels ≡ picture_bytes (lanes_of j.plan) j.plan.source.width j.plan.source.height
  pub out_long : length out ≡ picture_bytes (lanes_of j.plan) j.plan.target.width j.plan.target.height
  pub room : work_values (lanes_of j.plan) j.plan.target.width ≤ length work
  pub clear : work ≡ cleared j.plan work

-- the job at its end
pub record Driven (p : Plan) (pixels work₀ : List ℕ) (flag : Bool) (out work : List ℕ) : Type 0 where
  pub out_is : out ≡ rows_of p (λ i. get_or pixels i 0) p.target.height
  pub flag_is : flag ≡ flag_in (form_of p) (rows_of p (λ i. get_or pixels i 0) p.target.height) (p.target.width * p.target.height)
  pub work_is : work ≡ tabulate (last_first p (λ i. get_or pixels i 0)) (half_values (lanes_of p) p.target.width) ++ (tabulate (last_second p (λ i. get_or pixels i 0)) (half_values (lanes_of p) p.target.width) ++ drop (work_values (lanes_of p) p.target.width) work₀)
