-- `counts_fit` meets its contract: the first test that fails says false, and the last answers. Assumes nothing.
use Prim.Native.Nat.{ℕ, ◌-◌, ◌≤◌, ◌<◌}
use mathlib.Core.Path.{◌≡◌, ◌∙◌, ap}
use mathlib.Core.Bool.{false}
use lib.Dec.{leb}
use borrow.Author.Tests.{le-leb, lt-leb}
use Rattle.rows_schedule.specs.Schedule.{rows_by, counts_fit}
use Rattle.rows_schedule.proofs.counts_fit.Goals as goal

-- ---- the tests in their order; x is R(k-1) and y is R(k), as the calls answer
module _ (top h g source k t : ℕ) where
  too_many_lem : source < k → false ≡ counts_fit top h g source k t
  unfolding counts_fit
  too_many_lem l = simp (lt-leb k source l)

  module _ (rows : k ≤ source) (b x : ℕ) (b-is : b ≡ k - 1) (x-is : x ≡ rows_by top h g b) where
    low-is : x ≡ rows_by top h g (k - 1)
    low-is = x-is ∙ ap (rows_by top h g) b-is

    too_few : t < x → false ≡ counts_fit top h g source k t
    unfolding counts_fit
    too_few l = simp (le-leb k source rows, lt-leb (rows_by top h g (k - 1)) t (rw (← low-is) l))

    at_last : x ≤ t → (y : ℕ) → y ≡ rows_by top h g k → leb t y ≡ counts_fit top h g source k t
    unfolding counts_fit
    at_last l y y-is = simp (y-is, le-leb k source rows, le-leb (rows_by top h g (k - 1)) t (rw (← low-is) l))

pub returns-then-source-accepted : goal.returns-then-source-accepted
returns-then-source-accepted c =
    let a = c.args in
    too_many_lem a.top a.height a.target a.source a.accepted a.taken c.if-source-accepted.true

pub returns-then-taken-rows_by : goal.returns-then-taken-rows_by
returns-then-taken-rows_by c =
    let a = c.args in
    too_few a.top a.height a.target a.source a.accepted a.taken
    c.if-source-accepted.false _ _ c.saturating_sub-before.ensures c.rows_by.ensures c.if-taken-rows_by.true

pub returns : goal.returns
returns c =
    let a = c.args in
    at_last a.top a.height a.target a.source a.accepted a.taken
    c.if-source-accepted.false _ _ c.saturating_sub-before.ensures c.rows_by.ensures
    c.if-taken-rows_by.false _ c.rows_by-2.ensures
