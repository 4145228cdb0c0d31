-- The loop of `Forming`. Assumes nothing.
use native.Mathlib.Omega.{arith}
use Rattle.group_start.proofs.Forming.{forming_first, forming_more, formed_all}
use Rattle.group_start.proofs.group_of.Goals as goal

pub loop-i-init : goal.loop-i-init
loop-i-init c = forming_first c.args.plans _ _ c.no_job.ensures

pub offset_bounds-plans-i : goal.offset_bounds-plans-i
offset_bounds-plans-i c = omega (arith, c.looked_at-n.ensures)

pub bounds-plans-i : goal.bounds-plans-i
bounds-plans-i c = omega (arith, c.looked_at-n.ensures)

pub offset_bounds-g-i : goal.offset_bounds-g-i
offset_bounds-g-i c = omega (arith, c.looked_at-n.ensures)

pub bounds-g-i : goal.bounds-g-i
bounds-g-i c = omega (arith, c.looked_at-n.ensures)

pub loop-i-preserved : goal.loop-i-preserved
loop-i-preserved c =
    let v = c.loop-i in
    forming_more c.args.plans _ v.g v.i v.invariant _ c.formed_plan.ensures

pub returns : goal.returns
returns c =
    let v = c.loop-i in
    formed_all c.args.plans c.args.count _ v.g v.i v.invariant (omega arith) c.looked_at-n.ensures
