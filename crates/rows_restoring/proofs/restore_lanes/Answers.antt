-- `restore_lanes` meets its contract: a row of opaque pixels is restored already, any other is restored. Assumes nothing.
use Prim.Native.Nat.{ℕ, ◌<◌}
use mathlib.Core.Path.{sym, ◌∙◌}
use lib.ListN.{get_or}
use borrow.Author.Tests.{not-true, not-false}
use Rattle.rows_restoring.proofs.RestoredPixels.{opaque_row}
use Rattle.rows_restoring.proofs.restore_lanes.Goals as goal

pub returns-then-not-some_clear : goal.returns-then-not-some_clear
returns-then-not-some_clear c =
    let found = c.some_clear in
    let a = c.args in
    let small : (y : ℕ) → get_or a.out.now y 0 < 256 = λ y. (c.slice_known-1.given y).fits in
    let none = sym (not-true _ c.if-not-some_clear.true-raw) ∙ found.ensures in
    record {
      flag = none;
      out = opaque_row a.out.now small (sym none);
    }

pub returns : goal.returns
returns c =
    record {
      flag = sym (not-false _ c.if-not-some_clear.false-raw) ∙ c.some_clear.ensures;
      out = c.restore_pixels.ensures;
    }
