-- One of the jobs is unlike the first. Assumes nothing.
use Rattle.std.proofs.Common.{rules, tests}
use Rattle.std.proofs.lemmas.Iterator.{YieldsList-from_slice}
use Rattle.std.proofs.lemmas.Iterator.Search.{any_from_yields_List}
use mathlib.Core.Bool.{not}
use mathlib.Core.Path.{sym, ◌∙◌}
use native.Mathlib.Omega.{arith}
use lib.ListN.{take}
use Rattle.group_rules.specs.Group.{alike, looked, plan_at}
use Rattle.group_rules.proofs.Jobs.{any_tells}
use Rattle.group_rules.proofs.Alike.{no_jobs, jobs_decide}
use Rattle.group_rules.proofs.jobs_differ.Goals as goal

pub returns-then-n-eq0 : goal.returns-then-n-eq0
returns-then-n-eq0 c = let g = c.args.g in no_jobs g.jobs (looked g.count) (sym c.looked_at-n.ensures ∙ c.if-n-eq0.true)

pub returns : goal.returns
returns c =
    let g = c.args.g in
    let here = c.looked_at-n.ensures in
    let found = any_from_yields_List (λ j. not (alike (plan_at g.jobs 0) j.plan)) _ _ c.any.result c.any.ensures.ran (YieldsList-from_slice (take c.looked_at-n.result g.jobs) cc) (λ x b q k. search (rules, tests)) in
    jobs_decide g.jobs (looked g.count) (λ z. c.if-n-eq0.false (here ∙ z)) _ (any_tells _ g.jobs _ _ _ here (omega arith) found)
