-- What the users were promised of bands (SCOPE, "Bands"), to be read beside document 02's request 9; the contract of `offer_band` has the rest of it.
-- proofs/Theorem.antt proves it. Assumes nothing.
use Rattle.std.specs.Prelude.{ℕ, ◌+◌, ◌-◌, ◌*◌, ◌<◌, ◌≡◌, true, false, length}
use mathlib.Core.List.{List, Perm}
use Rattle.pixels.specs.Sizes.{row_bytes}
use Rattle.rows_schedule.specs.Schedule.{needed}
use Rattle.rows_in.specs.In.{in_crop}
use Rattle.job_rules.specs.Rules.{lanes_of, R}
use Rattle.job.specs.declared.Job.{Job}
use Rattle.job.specs.Record.{Rules, ready_of}
use Rattle.job_band.specs.Bands.{stretch, no_band, next_band, band_number, band_job, band_work, singly, rows_lent, first_half}

-- which rows the next band has, of a record that meets the rules
pub record RowsClaim (j : Job) : Type 0 where
  -- how many there are, in closed form: needed(h, g, R(k)) - 1 - u
  pub closed : no_band j.plan j.accepted ≡ false
      → stretch j.plan j.accepted
      ≡ needed j.plan.crop.height j.plan.target.height (R j.plan j.accepted) - 1 - (j.accepted - j.plan.crop.y)
  -- all of them lie in the crop
  pub inside : (i : ℕ) → i < next_band j → in_crop j.plan.crop (j.accepted + i) ≡ true
  -- a job that is asked says 0 exactly where every stretch is 17
  pub none : next_band j ≡ 0 → (n w : ℕ) → band_number j n w ≡ 17
  pub some : 0 < next_band j → (w : ℕ) → band_number j (row_bytes (lanes_of j.plan) j.plan.source.width * next_band j) w ≡ 17 → ⊥
  -- equal heights have no band
  pub equal_heights : j.plan.crop.height ≡ j.plan.target.height → next_band j ≡ 0

-- a band that went through
pub record WentClaim (j : Job) (rows work : List ℕ) : Type 0 where
  -- "The record and work rows must equal those after offering them in order": one offer a row
  pub in_order : (band_job j (length rows) (length work), band_work j rows work) ≡ singly j rows work (next_band j)
  -- no output row is ready after it
  pub none_ready : ready_of (band_job j (length rows) (length work)) ≡ 0

pub record BandTheorem : Type 0 where
  pub next_rows : (j : Job) → Rules j → RowsClaim j
  pub went : (j : Job) (rows work : List ℕ) → band_number j (length rows) (length work) ≡ 0 → WentClaim j rows work
  -- "Any permutation of these rows leaves the same first half"
  pub any_order : (j : Job) (rows rows' work : List ℕ) → length rows ≡ length rows' → Perm (rows_lent j.plan rows) (rows_lent j.plan rows')
      → first_half j.plan (band_work j rows work) ≡ first_half j.plan (band_work j rows' work)
  -- a band that passes the other tests is never 8
  pub never_eight : (j : Job) (n w : ℕ) → band_number j n w ≡ 8 → ⊥
