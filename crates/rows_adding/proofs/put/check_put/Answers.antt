-- `check_put`: the tests before a return passed and its own did not, so the number is its. Assumes nothing.
use Rattle.std.proofs.Common.{sym, ◌∙◌, mul-le-mul_right, arith, lt-ltb}
use Rattle.pixels.proofs.Causes.{first_at}
use Rattle.pixels.proofs.Fitting.{lanes_of_lem}
use Rattle.pixels.proofs.Truths.{differ, same}
use Rattle.rows_adding.specs.Put.{put_causes, put_number}
use Rattle.rows_adding.proofs.Putting.{put_fits}
use Rattle.rows_adding.proofs.put.check_put.Goals as goal

pub returns-then-bad_size : goal.returns-then-bad_size
unfolding put_number
returns-then-bad_size c =
    let a = c.args in
    sym (first_at (put_causes a.lanes a.crop a.target a.bytes a.room) 0 tt (sym c.bad_size.ensures ∙ c.if-bad_size.true))

pub returns-then-bad_size-2 : goal.returns-then-bad_size-2
unfolding put_number
returns-then-bad_size-2 c =
    let a = c.args in
    let crop = sym c.bad_size.ensures ∙ c.if-bad_size.false in
    sym (first_at (put_causes a.lanes a.crop a.target a.bytes a.room) 1 (crop, tt) (sym c.bad_size-2.ensures ∙ c.if-bad_size-2.true))

pub returns-then-bad_lanes : goal.returns-then-bad_lanes
unfolding put_number
returns-then-bad_lanes c =
    let a = c.args in
    let crop = sym c.bad_size.ensures ∙ c.if-bad_size.false in
    let target = sym c.bad_size-2.ensures ∙ c.if-bad_size-2.false in
    sym (first_at (put_causes a.lanes a.crop a.target a.bytes a.room) 2 (crop, (target, tt)) (sym c.bad_lanes.ensures ∙ c.if-bad_lanes.true))

pub returns-then-bytes-lanes : goal.returns-then-bytes-lanes
unfolding put_number
returns-then-bytes-lanes c =
    let a = c.args in
    let crop = sym c.bad_size.ensures ∙ c.if-bad_size.false in
    let target = sym c.bad_size-2.ensures ∙ c.if-bad_size-2.false in
    let lanes = sym c.bad_lanes.ensures ∙ c.if-bad_lanes.false in
    sym (first_at (put_causes a.lanes a.crop a.target a.bytes a.room) 3 (crop, (target, (lanes, tt))) (differ _ _ c.if-bytes-lanes.true))

pub overflow_mul-lanes-3 : goal.overflow_mul-lanes-3
overflow_mul-lanes-3 c =
    let a = c.args in
    let count = lanes_of_lem a.lanes (sym c.bad_lanes.ensures ∙ c.if-bad_lanes.false) in
    omega (arith, count.most, mul-le-mul_right a.target.width count.most)

pub returns-then-room-lanes : goal.returns-then-room-lanes
unfolding put_number
returns-then-room-lanes c =
    let a = c.args in
    let crop = sym c.bad_size.ensures ∙ c.if-bad_size.false in
    let target = sym c.bad_size-2.ensures ∙ c.if-bad_size-2.false in
    let lanes = sym c.bad_lanes.ensures ∙ c.if-bad_lanes.false in
    sym (first_at (put_causes a.lanes a.crop a.target a.bytes a.room) 4 (crop, (target, (lanes, (same _ _ c.if-bytes-lanes.false, tt)))) (lt-ltb _ _ c.if-room-lanes.true))

pub returns : goal.returns
returns c =
    let a = c.args in
    sym (put_fits a.lanes a.crop a.target a.bytes a.room
    (record {
      crop_fits = sym c.bad_size.ensures ∙ c.if-bad_size.false;
      target_fits = sym c.bad_size-2.ensures ∙ c.if-bad_size-2.false;
      lane_count = lanes_of_lem a.lanes (sym c.bad_lanes.ensures ∙ c.if-bad_lanes.false);
      row_length = c.if-bytes-lanes.false;
      work_room = c.if-room-lanes.false;
    }))
