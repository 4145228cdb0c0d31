-- A call of scale_row: a row that passes its tests passes those of its values, and the buffers are the same; the buffers with each number. Assumes nothing.
use Prim.Native.Nat.{ℕ, ◌≤◌}
use mathlib.Core.Path.{◌≡◌, sym, ◌∙◌}
use mathlib.Core.List.{List}
use mathlib.Core.Logic.{⊎_elim}
use native.Mathlib.Omega.{arith}
use lib.ListN.{length}
use Rattle.arithmetic.specs.Table.{tabulate}
use Rattle.arithmetic.specs.Weight.{span}
use Rattle.arithmetic.proofs.Orders.{le_or_lt}
use Rattle.arithmetic.proofs.Weights.{span_shrink, span_grow}
use Rattle.pixels.specs.declared.Dimensions.{Dimensions}
use Rattle.pixels.specs.declared.Refusal.{Refusal}
use Rattle.pixels.specs.Refusals.{number}
use Rattle.pixels.specs.Sizes.{half_values}
use Rattle.pixels.proofs.Numbers.{buffer_refused}
use Rattle.pixels.proofs.Fitting.{size_of_lem}
use Rattle.rows.specs.WorkRows.{scale_of, byte_out, row_left}
use Rattle.rows_tests.specs.declared.RowScale.{RowScale}
use Rattle.rows_tests.specs.Tests.{scale_number, values_number}
use Rattle.rows_tests.proofs.Passing.{Passed, passed_of, values_pass}
use Rattle.rows_scaling.specs.Scaling.{scale_in, values_out, values_work}
use Rattle.rows_scaling.proofs.ScaleValues.{values_made}
use Rattle.rows_out.specs.Scaled.{scaled_out, scaled_work}

-- the span of a crop is at least 1
span_some : (n m : ℕ) → 1 ≤ n → 1 ≤ span n m
span_some n m p =
    ⊎_elim (λ h. rw (span_shrink n m h) p) (λ h. rw (span_grow n m h) (omega arith)) (le_or_lt m n)

module _ (lanes : ℕ) (crop target : Dimensions) (u y : ℕ) (out work : List ℕ) where
  abbrev result : ℕ
  result = scale_number lanes crop target u y (length out) (length work)

  -- number, output and work rows, as the contract states them
  abbrev pub Answer : ℕ → List ℕ → List ℕ → Type 0
  Answer n out' work' = (n ≡ result) × ((out' ≡ scaled_out lanes crop target u y out work) × (work' ≡ scaled_work lanes crop target u y (length out) work))

  -- ---- a row that is made, and one that is not
  pub scale_made : result ≡ 0
      → (scaled_out lanes crop target u y out work ≡ tabulate (byte_out (scale_of lanes crop target) u y work) (scale_of lanes crop target).w)
      × (scaled_work lanes crop target u y (length out) work ≡ row_left (scale_of lanes crop target) u y work)
  unfolding scaled_out scaled_work
  scale_made e = (simp e, simp e)

  pub scale_refused : (why : Refusal) → number why ≡ result → Answer (number why) out work
  unfolding scaled_out scaled_work
  scale_refused why e = (e, ((buffer_refused why _ _ out (sym e)).1, (buffer_refused why _ _ work (sym e)).1))

  -- ---- past the tests; sp is what the code has for the span
  module _ (e : 0 ≡ result) {sp : ℕ} (sp-is : sp ≡ span crop.width target.width) where
    abbrev by : RowScale
    by = record { span = sp; h = crop.height; g = target.height; w = half_values lanes target.width }

    passed : Passed lanes crop target u y (length out) (length work)
    passed = passed_of lanes crop target u y (length out) (length work) (sym e)

    goes : values_number by u y (length out) (length work) ≡ 0
    goes =
        let sides = size_of_lem crop passed.crop_fits in
        values_pass by u y (length out) (length work)
        (record {
          span_some = rw sp-is (span_some crop.width target.width sides.0.some);
          h_some = sides.1.some;
          out_exact = passed.out_exact;
          work_enough = omega (arith, passed.work_enough);
          ready = passed.ready;
        })

    pub scale_done : {n : ℕ} {out' work' : List ℕ} → n ≡ values_number by u y (length out) (length work) → out' ≡ values_out by u y out work
        → work' ≡ values_work by u y (length out) work → Answer n out' work'
    scale_done {out' = out'} {work' = work'} m o k =
        let made = scale_made (sym e) in
        let values = values_made by u y out work goes in
        let out_is : out' ≡ tabulate (byte_out (scale_in by) u y work) by.w = o ∙ values.0 in
        let work_is : work' ≡ row_left (scale_in by) u y work = k ∙ values.1 in
        (m ∙ goes ∙ e, (rw sp-is at out_is ∙ sym made.0, rw sp-is at work_is ∙ sym made.1))
