-- `grow` meets its contract: d is in its range, so it fits; each half lies in the work rows, and the loops' b and factor are SCOPE's. Assumes nothing.
use Rattle.rows_scaling.proofs.Factors.{factor_half, grow_out, level_out}
use Rattle.rows_scaling.proofs.RestRange.{up_some, up_low, up_high}
use Rattle.rows_scaling.specs.Scaling.{scale_in}
use Rattle.std.proofs.Common.{ℕ, ◌^◌, ◌<◌, get_or, arith}
use Rattle.rows_scaling.proofs.DueRow.grow.Goals as goal

pub overflow_sub-d : goal.overflow_sub-d
overflow_sub-d c = omega (arith, up_some c.args.self.asks c.requires.h_lt_g)

pub overflow_sub-d-4 : goal.overflow_sub-d-4
overflow_sub-d-4 c = omega (arith, up_low c.args.self.asks c.requires.h_lt_g)

pub overflow_cast-d-5 : goal.overflow_cast-d-5
overflow_cast-d-5 c = omega (arith, up_low c.args.self.asks c.requires.h_lt_g, up_high c.args.self.asks c.requires.h_lt_g)

pub overflow_sub-used : goal.overflow_sub-used
overflow_sub-used c = omega (arith, up_some c.args.self.asks c.requires.h_lt_g)

pub invariant_of-factor : goal.invariant_of-factor
invariant_of-factor c = record { halved = factor_half c.args.self.s.span c.factor_up.ensures }

pub invariant_of-factor-2 : goal.invariant_of-factor-2
invariant_of-factor-2 c = record { halved = factor_half c.args.self.s.span c.factor_up.ensures }

pub returns-then-b-eq0 : goal.returns-then-b-eq0
returns-then-b-eq0 c =
    let a = c.args in
    let up = c.requires.h_lt_g in
    let rest = c.frac-b.ensures in
    let factor = c.factor_up.ensures in
    let new = c.half_of-new.ensures in
    let old = c.half_of-old.ensures in
    let words : (i : ℕ) → get_or a.work.now i 0 < 2 ^ 32 = λ i. (c.type_inv.work i).fits in
    level_out (scale_in a.self.s) a.self.used a.self.row a.work.now up words rest factor new old c.if-b-eq0.true (rw c.requires.room_asks.exact at c.level_lanes.ensures)

pub overflow_sub-used-2 : goal.overflow_sub-used-2
overflow_sub-used-2 c = omega (arith, up_some c.args.self.asks c.requires.h_lt_g)

pub returns : goal.returns
returns c =
    let a = c.args in
    let up = c.requires.h_lt_g in
    let rest = c.frac-b.ensures in
    let factor = c.factor_up.ensures in
    let new = c.half_of-new.ensures in
    let old = c.half_of-old.ensures in
    let words : (i : ℕ) → get_or a.work.now i 0 < 2 ^ 32 = λ i. (c.type_inv.work i).fits in
    grow_out (scale_in a.self.s) a.self.used a.self.row a.work.now up words rest factor new old (rw c.requires.room_asks.exact at c.blend_lanes.ensures)
