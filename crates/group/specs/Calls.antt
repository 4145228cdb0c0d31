-- What a group's offer and take answer and leave in every buffer (SCOPE, "Groups"), for every group and any contents of the work values. A group's accepting offer
-- is each job's own offer of exactly the rows accepted, on its own part of the work values; its take is the named job's own. Assumes nothing.
use Rattle.std.specs.Prelude.{ℕ, ◌+◌, ◌*◌, min, cond, ◌&&◌, not, List, eqb, length, take, set}
use Rattle.pixels.specs.Refusals.{buffer_if}
use Rattle.pixels.specs.Sizes.{row_bytes}
use Rattle.job_rules.specs.Rules.{lanes_of}
use Rattle.job.specs.declared.Job.{Job}
use Rattle.job.specs.Record.{ready_of}
use Rattle.job.specs.Calls as job
use Rattle.job.specs.Calls.{least, lent_rows}
use Rattle.group_parts.specs.Parts.{part_at, put_at, each_part}
use Rattle.group_rules.specs.declared.Group.{Group}
use Rattle.group_rules.specs.Group.{job_at, plan_at, each_job, needs, total, group_lawful}
use Rattle.group_rules.specs.Tests.{some_ready, lacks, group_offer_number, group_take_number}

-- the rows ready of job i; none of a group that breaks the rules, nor of a job that it lacks
unfoldable pub group_ready : Group → ℕ → ℕ
group_ready g i = cond (group_lawful g && not (lacks g i)) (ready_of (job_at g.jobs i)) 0

-- ---- offer

-- the rows lent or those that the source has left, whichever are fewer; n is the number of bytes lent
abbrev pub most_rows : Group → ℕ → ℕ
most_rows g n = job.most_rows (job_at g.jobs 0) n

-- "the smallest of the rows lent, those remaining and the least c for which SOME job's R(k + c) is above its taken"
unfoldable pub group_count : Group → ℕ → ℕ
group_count g n =
    min (most_rows g n) (least (λ c. some_ready g.jobs g.count ((job_at g.jobs 0).accepted + c)) 1 (most_rows g n))

unfoldable pub group_offer_rows : Group → ℕ → ℕ → ℕ
group_offer_rows g n w = cond (eqb (group_offer_number g n w) 0) (group_count g n) 0

-- the bytes of the rows accepted
abbrev pub fed_rows : Group → List ℕ → List ℕ
fed_rows g rows = take (row_bytes (lanes_of (plan_at g.jobs 0)) (plan_at g.jobs 0).source.width * group_count g (length rows)) rows

-- the group with these jobs
abbrev pub with_jobs : Group → List Job → Group
with_jobs g js = record { count = g.count; jobs = js }

-- the record afterwards, of n bytes lent
unfoldable pub group_offered : Group → ℕ → ℕ → Group
group_offered g n w =
    cond (eqb (group_offer_number g n w) 0)
    (with_jobs g (each_job (λ j. job.more_accepted j (group_count g n)) g.count g.jobs))
    g

-- the work values afterwards: of each job "what it would hand out alone with that list of accepted rows"
unfoldable pub group_offer_work : Group → List ℕ → List ℕ → List ℕ
group_offer_work g rows work =
    buffer_if (group_offer_number g (length rows) (length work))
    (each_part (needs g.jobs) (λ i. job.offer_work (job_at g.jobs i) (fed_rows g rows)) g.count work)
    work

-- ---- take, of job i

-- its part of the work values
abbrev pub own_part : Group → ℕ → List ℕ → List ℕ
own_part g i work = part_at (needs g.jobs) i work

unfoldable pub group_taken : Group → ℕ → ℕ → List ℕ → Group
group_taken g i n work =
    cond (eqb (group_take_number g i n (length work)) 0)
    (with_jobs g (set g.jobs i (job.take_job (job_at g.jobs i) n (own_part g i work))))
    g

unfoldable pub group_take_out : Group → ℕ → List ℕ → List ℕ → List ℕ
group_take_out g i out work =
    buffer_if (group_take_number g i (length out) (length work)) (job.take_out (job_at g.jobs i) out (own_part g i work)) out

unfoldable pub group_take_work : Group → ℕ → ℕ → List ℕ → List ℕ
group_take_work g i n work =
    buffer_if (group_take_number g i n (length work))
    (put_at (total g.jobs i) (needs g.jobs i) work (job.take_work (job_at g.jobs i) n (own_part g i work)))
    work
