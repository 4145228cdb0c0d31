-- `check_values` meets its contract: at each return the tests before it passed, and it is the first that applies. Assumes nothing.
use Prim.Native.Nat.{◌+◌}
use mathlib.Core.Path.{sym, ap, ◌∙◌}
use mathlib.Core.Bool.{not}
use native.Mathlib.Omega.{arith}
use borrow.Author.Tests.{eq-eqb, ne_eqb, lt-ltb, le-ltb}
use Rattle.pixels.proofs.Truths.{differ, same}
use Rattle.pixels.proofs.Causes.{first_at}
use Rattle.rows_tests.specs.Tests.{values_causes, values_number}
use Rattle.rows_tests.proofs.Passing.{values_pass}
use Rattle.rows_tests.proofs.check_values.Goals as goal

pub returns-then-s-eq0 : goal.returns-then-s-eq0
unfolding values_number
returns-then-s-eq0 c =
    let a = c.args in
    sym (first_at (values_causes a.s a.used a.row a.out a.work) 0 tt (eq-eqb _ _ c.if-s-eq0.true))

pub returns-then-s-eq0-2 : goal.returns-then-s-eq0-2
unfolding values_number
returns-then-s-eq0-2 c =
    let a = c.args in
    sym (first_at (values_causes a.s a.used a.row a.out a.work) 1 (ne_eqb _ _ c.if-s-eq0.false, tt) (eq-eqb _ _ c.if-s-eq0-2.true))

pub returns-then-out-s : goal.returns-then-out-s
unfolding values_number
returns-then-out-s c =
    let a = c.args in
    sym (first_at (values_causes a.s a.used a.row a.out a.work) 2 (ne_eqb _ _ c.if-s-eq0.false, (ne_eqb _ _ c.if-s-eq0-2.false, tt)) (differ _ _ c.if-out-s.true))

pub returns-then-work-s : goal.returns-then-work-s
unfolding values_number
returns-then-work-s c =
    let a = c.args in
    sym (first_at (values_causes a.s a.used a.row a.out a.work) 3
    (ne_eqb _ _ c.if-s-eq0.false, (ne_eqb _ _ c.if-s-eq0-2.false, (same _ _ c.if-out-s.false, tt))) (lt-ltb a.work (a.s.w + a.s.w) (omega (arith, c.if-work-s.true))))

pub returns-then-not-due : goal.returns-then-not-due
unfolding values_number
returns-then-not-due c =
    let a = c.args in
    sym (first_at (values_causes a.s a.used a.row a.out a.work) 4
    (ne_eqb _ _ c.if-s-eq0.false, (ne_eqb _ _ c.if-s-eq0-2.false, (same _ _ c.if-out-s.false, (le-ltb a.work (a.s.w + a.s.w) (omega (arith, c.if-work-s.false)), tt))))
    (ap not (sym c.due.ensures ∙ c.if-not-due.true)))

pub returns : goal.returns
returns c =
    let a = c.args in
    let span_some = c.if-s-eq0.false in
    let h_some = c.if-s-eq0-2.false in
    sym (values_pass a.s a.used a.row a.out a.work
    (record {
      span_some = omega (arith, span_some);
      h_some = omega (arith, h_some);
      out_exact = c.if-out-s.false;
      work_enough = omega (arith, c.if-work-s.false);
      ready = sym c.due.ensures ∙ c.if-not-due.false;
    }))
