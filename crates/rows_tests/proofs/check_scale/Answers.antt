-- `check_scale` meets its contract: at each return the tests before it passed, and it is the first that applies. Assumes nothing.
use mathlib.Core.Path.{sym, ap, ◌∙◌}
use mathlib.Core.Bool.{not}
use native.Mathlib.Omega.{arith}
use native.Mathlib.Nat.{mul-le-mul_right}
use borrow.Author.Tests.{lt-ltb, le-ltb}
use Rattle.pixels.proofs.Fitting.{lanes_of_lem}
use Rattle.pixels.proofs.Truths.{differ, same}
use Rattle.pixels.proofs.Causes.{first_at}
use Rattle.rows_tests.specs.Tests.{scale_causes, scale_number}
use Rattle.rows_tests.proofs.Passing.{scale_passes}
use Rattle.rows_tests.proofs.check_scale.Goals as goal

pub returns-then-bad_size : goal.returns-then-bad_size
unfolding scale_number
returns-then-bad_size c =
    let a = c.args in
    sym (first_at (scale_causes a.lanes a.crop a.target a.used a.row a.out a.work) 0 tt (sym c.bad_size.ensures ∙ c.if-bad_size.true))

pub returns-then-bad_size-2 : goal.returns-then-bad_size-2
unfolding scale_number
returns-then-bad_size-2 c =
    let a = c.args in
    let crop = sym c.bad_size.ensures ∙ c.if-bad_size.false in
    sym (first_at (scale_causes a.lanes a.crop a.target a.used a.row a.out a.work) 1 (crop, tt) (sym c.bad_size-2.ensures ∙ c.if-bad_size-2.true))

pub returns-then-bad_lanes : goal.returns-then-bad_lanes
unfolding scale_number
returns-then-bad_lanes c =
    let a = c.args in
    let crop = sym c.bad_size.ensures ∙ c.if-bad_size.false in
    let target = sym c.bad_size-2.ensures ∙ c.if-bad_size-2.false in
    sym (first_at (scale_causes a.lanes a.crop a.target a.used a.row a.out a.work) 2 (crop, (target, tt)) (sym c.bad_lanes.ensures ∙ c.if-bad_lanes.true))

pub overflow_mul-both : goal.overflow_mul-both
overflow_mul-both c =
    let a = c.args in
    let count = lanes_of_lem a.lanes (sym c.bad_lanes.ensures ∙ c.if-bad_lanes.false) in
    omega (arith, count.most, mul-le-mul_right a.target.width count.most)

pub returns-then-out-w : goal.returns-then-out-w
unfolding scale_number
returns-then-out-w c =
    let a = c.args in
    let crop = sym c.bad_size.ensures ∙ c.if-bad_size.false in
    let target = sym c.bad_size-2.ensures ∙ c.if-bad_size-2.false in
    let lanes = sym c.bad_lanes.ensures ∙ c.if-bad_lanes.false in
    sym (first_at (scale_causes a.lanes a.crop a.target a.used a.row a.out a.work) 3 (crop, (target, (lanes, tt))) (differ _ _ c.if-out-w.true))

pub returns-then-work-both : goal.returns-then-work-both
unfolding scale_number
returns-then-work-both c =
    let a = c.args in
    let crop = sym c.bad_size.ensures ∙ c.if-bad_size.false in
    let target = sym c.bad_size-2.ensures ∙ c.if-bad_size-2.false in
    let lanes = sym c.bad_lanes.ensures ∙ c.if-bad_lanes.false in
    sym (first_at (scale_causes a.lanes a.crop a.target a.used a.row a.out a.work) 4 (crop, (target, (lanes, (same _ _ c.if-out-w.false, tt)))) (lt-ltb _ _ c.if-work-both.true))

pub returns-then-not-due : goal.returns-then-not-due
unfolding scale_number
returns-then-not-due c =
    let a = c.args in
    let crop = sym c.bad_size.ensures ∙ c.if-bad_size.false in
    let target = sym c.bad_size-2.ensures ∙ c.if-bad_size-2.false in
    let lanes = sym c.bad_lanes.ensures ∙ c.if-bad_lanes.false in
    sym (first_at (scale_causes a.lanes a.crop a.target a.used a.row a.out a.work) 5
    (crop, (target, (lanes, (same _ _ c.if-out-w.false, (le-ltb _ _ c.if-work-both.false, tt))))) (ap not (sym c.due.ensures ∙ c.if-not-due.true)))

pub returns : goal.returns
returns c =
    let a = c.args in
    sym (scale_passes a.lanes a.crop a.target a.used a.row a.out a.work
    (record {
      crop_fits = sym c.bad_size.ensures ∙ c.if-bad_size.false;
      target_fits = sym c.bad_size-2.ensures ∙ c.if-bad_size-2.false;
      lane_count = lanes_of_lem a.lanes (sym c.bad_lanes.ensures ∙ c.if-bad_lanes.false);
      out_exact = c.if-out-w.false;
      work_enough = c.if-work-both.false;
      ready = sym c.due.ensures ∙ c.if-not-due.false;
    }))
