-- One of the jobs has a row ready. Assumes nothing.
use Rattle.std.proofs.Common.{rules, tests}
use Rattle.std.proofs.lemmas.Iterator.{YieldsList-from_slice}
use Rattle.std.proofs.lemmas.Iterator.Search.{any_from_yields_List}
use native.Mathlib.Omega.{arith}
use lib.ListN.{take}
use Rattle.group_rules.specs.Tests.{ready_at}
use Rattle.group_rules.proofs.Jobs.{any_tells}
use Rattle.group_tests.proofs.some_ready.Goals as goal

pub returns : goal.returns
returns c =
    let a = c.args in
    let found = any_from_yields_List (λ j. ready_at j a.k) _ _ c.any.result c.any.ensures.ran (YieldsList-from_slice (take c.looked_at.result a.g.jobs) cc) (λ x b q k. search (rules, tests)) in
    any_tells _ a.g.jobs _ _ _ c.looked_at.ensures (omega arith) found
