-- The words of the record, stored as one answer. Assumes nothing.
use Rattle.capi_record.proofs.Records.{job_stored}
use Rattle.capi_record.proofs.store_job.Goals as goal

pub returns : goal.returns
returns c =
    let g = c.args in
    let l = c.layout_word in
    let f = c.flag_word in
    let k = c.kind_word in
    job_stored g.job l.result f.result k.result _ g.words.now l.ensures f.ensures k.ensures c.store.ensures
