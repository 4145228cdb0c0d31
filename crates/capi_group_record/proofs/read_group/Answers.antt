-- A count beyond the limit or too few words tell nothing. The invariant: the jobs read so far are legal, and stand in their places; the first that is none ends it. Assumes nothing.
use native.Mathlib.Omega.{arith}
use borrow.Author.Rules.{rules}
use Rattle.capi_group_record.proofs.Groups.{group_first_lem, group_more, job_here, no_job_here, no_words, many_jobs, short_group_lem, job_not, group_read}
use Rattle.capi_group_record.specs.GroupRecord.{count_word}
use Rattle.capi_group_record.proofs.read_group.Goals as goal

pub returns-then-words-lt1 : goal.returns-then-words-lt1
returns-then-words-lt1 c = no_words c.args.words.now c.if-words-lt1.true

pub overflow_cast-n : goal.overflow_cast-n
overflow_cast-n c = search (rules, c.type_inv.words 0)

pub returns-then-n-gt-GROUP_LIMIT : goal.returns-then-n-gt-GROUP_LIMIT
returns-then-n-gt-GROUP_LIMIT c = many_jobs c.args.words.now c.if-n-gt-GROUP_LIMIT.true

pub returns-then-words-n : goal.returns-then-words-n
returns-then-words-n c = short_group_lem c.args.words.now c.if-n-gt-GROUP_LIMIT.false c.if-words-n.true

pub loop-i-init : goal.loop-i-init
loop-i-init c = group_first_lem c.args.words.now (count_word c.args.words.now) _ c.no_job.ensures

pub returns-in_default : goal.returns-in_default
returns-in_default c =
    let g = c.args in
    let i = c.loop-i.i in
    job_not g.words.now c.if-n-gt-GROUP_LIMIT.false c.if-words-n.false i c.loop-i-test.true (no_job_here g.words.now i c.read_job.ensures c.in_default.is)

pub loop-i-preserved : goal.loop-i-preserved
loop-i-preserved c =
    let g = c.args in
    let l = c.loop-i in
    group_more g.words.now (count_word g.words.now) l.i l.group c.in-Some.job l.invariant (job_here g.words.now l.i c.read_job.ensures c.in-Some.job c.in-Some.is)

pub returns : goal.returns
returns c =
    let g = c.args in
    let l = c.loop-i in
    group_read g.words.now c.if-n-gt-GROUP_LIMIT.false c.if-words-n.false l.i l.group l.invariant (omega arith)
