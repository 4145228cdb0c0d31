-- What a private function of a band ensures. Assumes nothing.
use Rattle.std.specs.Prelude.{ℕ, List, ◌++◌, take, drop}
use Rattle.pixels.specs.Sizes.{half_values}
use Rattle.rows.specs.WorkRows.{written}
use Rattle.job_rules.specs.declared.Plan.{Plan}
use Rattle.job_rules.specs.Rules.{lanes_of}
use Rattle.job.specs.Calls.{values_of}

-- the values of a source row put into the second half, and not added
unfoldable pub second_put : Plan → List ℕ → List ℕ → List ℕ
second_put p row work =
    take (half_values (lanes_of p) p.target.width) work
    ++ written (half_values (lanes_of p) p.target.width) (values_of p row) (drop (half_values (lanes_of p) p.target.width) work)
