-- A call of scale_values: what a row that passes its tests is asked, and the buffers with each number. Assumes nothing.
use Rattle.std.proofs.Common.{◌≡◌, ℕ, List, length, sym, ◌∙◌}
use Rattle.arithmetic.specs.Table.{tabulate}
use Rattle.pixels.specs.declared.Refusal.{Refusal}
use Rattle.pixels.specs.Refusals.{number}
use Rattle.pixels.proofs.Numbers.{buffer_refused}
use Rattle.rows.specs.WorkRows.{byte_out, row_left}
use Rattle.rows_tests.specs.declared.RowScale.{RowScale}
use Rattle.rows_tests.specs.Tests.{values_number}
use Rattle.rows_tests.proofs.Passing.{ValuesPass, values_of}
use Rattle.rows_scaling.specs.Scaling.{scale_in, values_out, values_work}
use Rattle.rows_scaling.specs.Inner.Scaling.{RowAsks, RoomAsks}

module _ (s : RowScale) (u y : ℕ) (out work : List ℕ) where
  abbrev result : ℕ
  result = values_number s u y (length out) (length work)

  -- number, output and work rows, as the contract states them
  abbrev pub Answer : ℕ → List ℕ → List ℕ → Type 0
  Answer n out' work' = (n ≡ result) × ((out' ≡ values_out s u y out work) × (work' ≡ values_work s u y (length out) work))

  -- ---- a row that is made, and one that is not
  pub values_made : result ≡ 0 → (values_out s u y out work ≡ tabulate (byte_out (scale_in s) u y work) s.w) × (values_work s u y (length out) work ≡ row_left (scale_in s) u y work)
  unfolding values_out values_work
  values_made e = (simp e, simp e)

  pub values_refused : (why : Refusal) → number why ≡ result → Answer (number why) out work
  unfolding values_out values_work
  values_refused why e = (e, ((buffer_refused why _ _ out (sym e)).1, (buffer_refused why _ _ work (sym e)).1))

  -- ---- past the tests
  module _ (e : 0 ≡ result) where
    passed : ValuesPass s u y (length out) (length work)
    passed = values_of s u y (length out) (length work) (sym e)

    pub row_asks : RowAsks (scale_in s) u y
    row_asks = record { span_some = passed.span_some; h_some = passed.h_some; ready = passed.ready }

    pub room_asks : RoomAsks work out s.w
    room_asks = record { halves = passed.work_enough; exact = passed.out_exact }

    pub values_done : {out' work' : List ℕ} → out' ≡ tabulate (byte_out (scale_in s) u y work) s.w → work' ≡ row_left (scale_in s) u y work → Answer 0 out' work'
    values_done o k = let made = values_made (sym e) in (e, (o ∙ sym made.0, k ∙ sym made.1))
