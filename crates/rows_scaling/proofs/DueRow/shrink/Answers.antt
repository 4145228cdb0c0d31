-- `shrink` meets its contract: the loops' step and ratio are SCOPE's factors. Assumes nothing.
use Rattle.std.proofs.Common.{sym, ◌∙◌, arith}
use Rattle.rows_scaling.proofs.Factors.{ratio_word, ratio_below, shrink_out, shrink_work, take_out_lem, take_work_lem}
use Rattle.rows_scaling.specs.Scaling.{scale_in}
use Rattle.rows_scaling.proofs.DueRow.shrink.Goals as goal

pub returns-then-q-eq4294967296 : goal.returns-then-q-eq4294967296
returns-then-q-eq4294967296 c =
    let a = c.args in
    let by = scale_in a.self.s in
    let down = c.requires.g_le_h in
    let full = sym c.ratio-q.ensures ∙ c.if-q-eq4294967296.true in
    let taken = rw c.requires.room_asks.exact at c.take_lanes.ensures in
    let out_is = take_out_lem by a.self.used a.self.row a.work.now down full taken.out in
    record {
      out = out_is;
      work = take_work_lem by a.self.used a.self.row a.work.now down full taken.work;
    }

pub overflow_cast-factor : goal.overflow_cast-factor
overflow_cast-factor c =
    let a = c.args in
    omega (arith, ratio_word a.self.s.span a.self.s.h a.self.s.g c.args.self.asks.span_some c.args.self.asks.h_some c.requires.g_le_h c.ratio-q.ensures, c.if-q-eq4294967296.false)

pub invariant_of-factor : goal.invariant_of-factor
invariant_of-factor c =
    let a = c.args in
    record { halved = λ t. ratio_below a.self.s.span a.self.s.h a.self.s.g c.ratio-q.ensures (sym c.below_half.ensures ∙ t) }

pub returns : goal.returns
returns c =
    let a = c.args in
    let by = scale_in a.self.s in
    let down = c.requires.g_le_h in
    let q = c.ratio-q.ensures in
    let step = c.share_step-step.ensures in
    let below = c.if-q-eq4294967296.false in
    let made = rw c.requires.room_asks.exact at c.shrink_lanes.ensures in
    let out_is = shrink_out by a.self.used a.self.row a.work.now down q step below made.out in
    record {
      out = out_is;
      work = shrink_work by a.self.used a.self.row a.work.now down q step below made.work;
    }
