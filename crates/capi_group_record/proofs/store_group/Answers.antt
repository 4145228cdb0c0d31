-- Too few words are left as they were. The invariant: the count and the words of the first i jobs, then what stood there. Assumes nothing.
use Prim.Native.Nat.{◌≤◌}
use mathlib.Core.Path.{refl, ◌∙◌}
use native.Mathlib.Omega.{arith}
use lib.ListN.{length, length-set}
use Rattle.capi_group_record.proofs.Groups.{begun_long, storing_first, storing_room, storing_more, too_many_stored, none_stored, group_stored}
use Rattle.capi_group_record.proofs.store_group.Goals as goal

pub returns-then-n-gt-GROUP_LIMIT : goal.returns-then-n-gt-GROUP_LIMIT
returns-then-n-gt-GROUP_LIMIT c = too_many_stored c.args.group c.args.words.now c.if-n-gt-GROUP_LIMIT.true

pub returns-then-words-n : goal.returns-then-words-n
returns-then-words-n c = none_stored c.args.group c.args.words.now c.if-n-gt-GROUP_LIMIT.false c.if-words-n.true

pub loop-i-init : goal.loop-i-init
loop-i-init c =
    let g = c.args in
    let h : 1 ≤ length g.words.now = omega (arith, c.if-words-n.false) in
    storing_first g.group g.words.now h

pub slice_bounds-store_job-end : goal.slice_bounds-store_job-end
slice_bounds-store_job-end c = storing_room c.loop-i.invariant (begun_long c.args.group c.args.words.now c.if-words-n.false) c.loop-i-test.true

pub loop-i-preserved : goal.loop-i-preserved
loop-i-preserved c =
    let g = c.args in
    let l = c.loop-i in
    storing_more l.invariant (begun_long g.group g.words.now c.if-words-n.false) c.loop-i-test.true _ _ refl c.store_job.ensures

pub shape_of-words : goal.shape_of-words
shape_of-words c = c.loop-i.invariant.long ∙ length-set c.args.words.now 0 c.args.group.count

pub returns : goal.returns
returns c = group_stored c.args.group c.args.words.now c.if-n-gt-GROUP_LIMIT.false c.loop-i.words c.loop-i.i c.if-words-n.false c.loop-i.invariant (omega arith)
