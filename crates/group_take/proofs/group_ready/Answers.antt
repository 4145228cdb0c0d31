-- No rows of a group that breaks the rules nor of a job that it lacks; else that job's own. Assumes nothing.
use native.Mathlib.Omega.{arith}
use Rattle.group_rules.proofs.Lawful.{lawful_group}
use Rattle.group_tests.proofs.Testing.{lawful_is}
use Rattle.group_take.proofs.Answering.{ready_broken, ready_lacking, ready_job}
use Rattle.group_take.proofs.group_ready.Goals as goal

pub returns-then-not-check_group : goal.returns-then-not-check_group
returns-then-not-check_group c = let a = c.args in ready_broken a.g a.job _ c.check_group.ensures c.if-not-check_group.true-raw

pub returns-then-g-job : goal.returns-then-g-job
returns-then-g-job c =
    let a = c.args in
    let few = (lawful_group _ (lawful_is _ _ c.check_group.ensures c.if-not-check_group.false-raw)).few in
    ready_lacking a.g a.job _ c.check_group.ensures c.if-not-check_group.false-raw (omega (arith, c.if-g-job.true, few))

pub bounds-g-job : goal.bounds-g-job
bounds-g-job c = omega (arith, (lawful_group _ (lawful_is _ _ c.check_group.ensures c.if-not-check_group.false-raw)).few)

pub returns : goal.returns
returns c =
    let a = c.args in
    ready_job a.g a.job _ c.check_group.ensures c.if-not-check_group.false-raw (omega (arith, c.if-g-job.false)) _ c.ready.ensures
