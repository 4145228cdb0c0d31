-- Each word is read at its place. Assumes nothing.
use Rattle.capi_record.specs.Record.{words_job}
use Rattle.capi_record.proofs.job_of.Goals as goal

pub returns : goal.returns
unfolding words_job
returns c = rw (c.layout_of-layout.ensures, c.kind_of-kind.ensures)
