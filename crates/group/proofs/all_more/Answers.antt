-- Each record so far counts the rows; the others are as they were. Assumes nothing.
use mathlib.Core.Path.{ap}
use Rattle.job.specs.declared.Job.{Job}
use native.Mathlib.Omega.{arith}
use Rattle.group_rules.proofs.Lawful.{lawful_group}
use Rattle.group.proofs.Feeding.{advancing_first, advancing_here, advancing_more, advancing_done}
use Rattle.group.proofs.all_more.Goals as goal

pub loop-i-init : goal.loop-i-init
loop-i-init c = advancing_first c.args.g c.args.c

pub offset_bounds-g-i : goal.offset_bounds-g-i
offset_bounds-g-i c = omega (arith, (lawful_group _ c.requires.0).few)

pub bounds-g-i : goal.bounds-g-i
bounds-g-i c = omega (arith, (lawful_group _ c.requires.0).few)

pub bounds-g-i-in-loop-i : goal.bounds-g-i-in-loop-i
bounds-g-i-in-loop-i c = omega (arith, (lawful_group _ c.requires.0).few)

pub overflow_add-g : goal.overflow_add-g
overflow_add-g c =
    let l = c.loop-i in
    let here = ap (λ (j : Job). j.accepted) (advancing_here l.invariant) in
    omega (arith, here, ((lawful_group _ c.requires.0).member l.i (omega arith)).accepted, c.requires.1)

pub loop-i-preserved : goal.loop-i-preserved
loop-i-preserved c =
    let l = c.loop-i in
    advancing_more l.invariant

pub returns : goal.returns
returns c =
    let l = c.loop-i in
    advancing_done l.invariant (omega arith)
