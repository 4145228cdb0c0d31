-- `grow`: one lane of two pixels or more, or any row. Assumes nothing.
use Rattle.std.proofs.Common.{sym, ltb-true}
use Rattle.rows_widening.proofs.grow.Goals as goal

pub grow_lane-requires : goal.grow_lane-requires
grow_lane-requires c =
    let e = c.if-lanes-eq1.true in
    record {
      row_asks = rw e at c.requires.row_asks;
      lt_n = (ltb-true 1 _ c.if-n-gt1.true-raw, c.requires.n_lt_m);
    }

pub returns-then-n-gt1 : goal.returns-then-n-gt1
returns-then-n-gt1 c = let e = c.if-lanes-eq1.true in rw (sym e) at c.grow_lane.ensures

pub grow_lanes-requires : goal.grow_lanes-requires
grow_lanes-requires c =
    record {
      row_asks = c.requires.row_asks;
      n_lt_m = c.requires.n_lt_m;
    }

pub returns : goal.returns
returns c = c.grow_lanes.ensures
