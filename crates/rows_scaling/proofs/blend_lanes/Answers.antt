-- `blend_lanes` meets its contract: each turn stores the bytes of two values blended, and where w is odd the last is stored after the loop. Assumes nothing.
use Rattle.rows_scaling.proofs.BlendLanes.{grow_first, grown_to, grow_one, grow_two}
use Rattle.arithmetic.proofs.Stores.{filled}
use Rattle.std.proofs.Common.{◌≡◌, ◌+◌, ◌-◌, ◌*◌, length, refl, arith}
use Rattle.rows_scaling.proofs.blend_lanes.Goals as goal

pub loop-pair-init : goal.loop-pair-init
loop-pair-init c = (omega arith, grow_first c.args.b c.args.factor.by c.requires.grow_asks)

pub loop-pair-preserved : goal.loop-pair-preserved
loop-pair-preserved c =
    let l = c.loop-pair.invariant in
    let n = c.requires.new_next_value in
    let on : 2 * c.loop-pair.pair + 2 ≡ 2 * (c.loop-pair.pair + 1) = omega arith in
    (l.0, rw on at (grow_two l.1 (omega arith) n c.blended-even.ensures c.blended-odd.ensures c.byte.ensures c.byte-in-loop-pair.ensures))

pub returns-then-w-eq1 : goal.returns-then-w-eq1
returns-then-w-eq1 c =
    let rest = grown_to (length c.args.out.now - 1) (omega arith) c.loop-pair.invariant.1 in
    let last = grow_one rest (omega arith) c.blended.ensures c.byte-then-w-eq1.ensures in
    filled last.bytes refl (omega arith)
