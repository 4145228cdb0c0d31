-- `grow_by`: column after column, by the laws of GrownRows. Assumes nothing.
use Rattle.rows_growing.proofs.GrownRows.{going, grown_first, grown_on, grown_pixel, grown_between, grown_over, grown_done}
use native.Mathlib.Omega.{arith}
use Rattle.rows_growing.proofs.grow_by.Goals as goal

pub loop-j-init : goal.loop-j-init
loop-j-init g c = grown_first (going c.requires)

pub loop-j-preserved-then-acc-step : goal.loop-j-preserved-then-acc-step
loop-j-preserved-then-acc-step g c =
    grown_on (going c.requires) c.loop-j.invariant _ c.put4.ensures (λ (e : _). omega (arith, c.if-j-m.false)) c.if-acc-step.true c.sub4-value.ensures

pub read-next-requires-clause-pixel_asks : goal.read-next-requires-clause-pixel_asks
read-next-requires-clause-pixel_asks g c =
    grown_pixel (going c.requires) c.loop-j.invariant _ c.put4.ensures (λ (e : _). omega (arith, c.if-j-m.false)) c.if-acc-step.false

pub between-value-requires : goal.between-value-requires
between-value-requires g c =
    grown_between (going c.requires) c.loop-j.invariant _ c.put4.ensures (λ (e : _). omega (arith, c.if-j-m.false)) c.if-acc-step.false

pub loop-j-preserved : goal.loop-j-preserved
loop-j-preserved g c =
    grown_over (going c.requires) c.loop-j.invariant _ c.put4.ensures (λ (e : _). omega (arith, c.if-j-m.false)) c.if-acc-step.false c.read-next.ensures c.between-value.ensures c.fall_of-fall.ensures

pub returns : goal.returns
returns g c = grown_done (going c.requires) c.loop-j.invariant _ c.put4.ensures (omega (arith, c.if-j-m.true, c.loop-j.invariant.below))
