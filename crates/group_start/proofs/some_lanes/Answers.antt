-- One of the jobs has number 10. Assumes nothing.
use Rattle.std.proofs.Common.{rules, tests}
use Rattle.std.proofs.lemmas.Iterator.{YieldsList-from_slice}
use Rattle.std.proofs.lemmas.Iterator.Search.{any_from_yields_List}
use native.Mathlib.Omega.{arith}
use lib.ListN.{take}
use Rattle.pixels.specs.Sizes.{bad_lanes}
use Rattle.job_rules.specs.Rules.{lanes_of}
use Rattle.group_rules.proofs.Jobs.{any_tells}
use Rattle.group_start.proofs.some_lanes.Goals as goal

pub returns : goal.returns
returns c =
    let g = c.args.g in
    let found = any_from_yields_List (λ j. bad_lanes (lanes_of j.plan)) _ _ c.any.result c.any.ensures.ran (YieldsList-from_slice (take c.looked_at.result g.jobs) cc) (λ x b q k. search (rules, tests)) in
    any_tells _ g.jobs _ _ _ c.looked_at.ensures (omega arith) found
