-- All of the jobs are in step with the first. Assumes nothing.
use Rattle.std.proofs.Common.{rules, tests}
use Rattle.std.proofs.lemmas.Iterator.{YieldsList-from_slice}
use Rattle.std.proofs.lemmas.Iterator.Search.{all_from_yields_List}
use mathlib.Core.Bool.{◌&&◌}
use native.Mathlib.Omega.{arith}
use lib.Dec.{eqb}
use lib.ListN.{take}
use Rattle.job.specs.Record.{lawful}
use Rattle.group_rules.specs.Group.{job_at}
use Rattle.group_rules.proofs.Jobs.{all_tells}
use Rattle.group_rules.proofs.jobs_in_step.Goals as goal

pub returns : goal.returns
returns c =
    let g = c.args.g in
    let found = all_from_yields_List (λ j. lawful j && eqb j.accepted (job_at g.jobs 0).accepted) _ _ c.all.result c.all.ensures.ran (YieldsList-from_slice (take c.looked_at-n.result g.jobs) cc) (λ x b q k. search (rules, tests)) in
    all_tells _ g.jobs _ _ _ c.looked_at-n.ensures (omega arith) found
