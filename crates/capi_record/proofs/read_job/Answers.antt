-- Words that make no record tell nothing; the others tell the record that is read. Assumes nothing.
use borrow.Author.Tests.{not-true, not-false}
use Rattle.capi_record.proofs.Records.{enough_words, told_nothing, told_job}
use Rattle.capi_record.proofs.read_job.Goals as goal

pub returns-then-not-legal : goal.returns-then-not-legal
returns-then-not-legal c = told_nothing c.args.words.now c.legal.ensures (not-true _ c.if-not-legal.true-raw)

pub job_of-requires : goal.job_of-requires
job_of-requires c = enough_words c.args.words.now c.legal.ensures (not-false _ c.if-not-legal.false-raw)

pub returns : goal.returns
returns c =
    let words = c.args.words.now in
    told_job words c.job_of.result c.legal.ensures (not-false _ c.if-not-legal.false-raw) c.job_of.ensures
