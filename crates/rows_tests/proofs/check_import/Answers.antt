-- `check_import`: the tests before a return passed and its own did not, so the number is its. Assumes nothing.
-- both widths pass
use Prim.Native.Nat.{ℕ}
use mathlib.Core.Path.{◌≡◌, sym, ◌∙◌}
use mathlib.Core.Bool.{false, ◌||◌, or-true}
use borrow.Author.Tests.{lt-ltb, le-ltb}
use Rattle.pixels.specs.Sizes.{bad_side}
use Rattle.pixels.proofs.Causes.{first_at, first_none}
use Rattle.pixels.proofs.Truths.{differ, same}
use Rattle.rows_tests.specs.Tests.{import_causes, import_number}
use Rattle.rows_tests.proofs.check_import.Goals as goal

both : (n m : ℕ) → bad_side n ≡ false → bad_side m ≡ false → (bad_side n || bad_side m) ≡ false
both n m e f = simp (e, f)

pub returns-then-bad_side : goal.returns-then-bad_side
unfolding import_number
returns-then-bad_side c =
    let a = c.args in
    let crop = sym c.bad_side.ensures ∙ c.if-bad_side.true in
    sym (first_at (import_causes a.lanes a.«crop_width» a.«target_width» a.bytes a.room) 0 tt (simp crop))

pub returns-then-bad_side-2 : goal.returns-then-bad_side-2
unfolding import_number
returns-then-bad_side-2 c =
    let a = c.args in
    let target = sym c.bad_side-2.ensures ∙ c.if-bad_side-2.true in
    sym (first_at (import_causes a.lanes a.«crop_width» a.«target_width» a.bytes a.room) 0 tt (simp (target, or-true)))

pub returns-then-bad_lanes : goal.returns-then-bad_lanes
unfolding import_number
returns-then-bad_lanes c =
    let a = c.args in
    let widths = both a.«crop_width» a.«target_width» (sym c.bad_side.ensures ∙ c.if-bad_side.false) (sym c.bad_side-2.ensures ∙ c.if-bad_side-2.false) in
    sym (first_at (import_causes a.lanes a.«crop_width» a.«target_width» a.bytes a.room) 1 (widths, tt) (sym c.bad_lanes.ensures ∙ c.if-bad_lanes.true))

pub returns-then-bytes-lanes : goal.returns-then-bytes-lanes
unfolding import_number
returns-then-bytes-lanes c =
    let a = c.args in
    let widths = both a.«crop_width» a.«target_width» (sym c.bad_side.ensures ∙ c.if-bad_side.false) (sym c.bad_side-2.ensures ∙ c.if-bad_side-2.false) in
    let lanes = sym c.bad_lanes.ensures ∙ c.if-bad_lanes.false in
    sym (first_at (import_causes a.lanes a.«crop_width» a.«target_width» a.bytes a.room) 2 (widths, (lanes, tt)) (differ _ _ c.if-bytes-lanes.true))

pub returns-then-room-lanes : goal.returns-then-room-lanes
unfolding import_number
returns-then-room-lanes c =
    let a = c.args in
    let widths = both a.«crop_width» a.«target_width» (sym c.bad_side.ensures ∙ c.if-bad_side.false) (sym c.bad_side-2.ensures ∙ c.if-bad_side-2.false) in
    let lanes = sym c.bad_lanes.ensures ∙ c.if-bad_lanes.false in
    sym (first_at (import_causes a.lanes a.«crop_width» a.«target_width» a.bytes a.room) 3 (widths, (lanes, (same _ _ c.if-bytes-lanes.false, tt))) (lt-ltb _ _ c.if-room-lanes.true))

pub returns : goal.returns
unfolding import_number
returns c =
    let a = c.args in
    let widths = both a.«crop_width» a.«target_width» (sym c.bad_side.ensures ∙ c.if-bad_side.false) (sym c.bad_side-2.ensures ∙ c.if-bad_side-2.false) in
    let lanes = sym c.bad_lanes.ensures ∙ c.if-bad_lanes.false in
    sym (first_none (import_causes a.lanes a.«crop_width» a.«target_width» a.bytes a.room) (widths, (lanes, (same _ _ c.if-bytes-lanes.false, (le-ltb _ _ c.if-room-lanes.false, tt)))))
