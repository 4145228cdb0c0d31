-- A row goes out, whole: the lanes that scaling makes have the length that restoring asks, so a picture's row that is scaled is restored, and its lanes restored
-- and packed are the row of the definition; a plane's row is its lanes. Assumes nothing.
use Prim.Native.Nat.{ℕ}
use mathlib.Core.Path.{◌≡◌, refl, sym, ap, ◌∙◌}
use mathlib.Core.Bool.{Bool, false}
use mathlib.Core.List.{List}
use lib.ListN.{length, get_or}
use Rattle.arithmetic.specs.Table.{tabulate}
use Rattle.arithmetic.proofs.Tables.{length_tabulate, get_d_tabulate, tabulate_cong}
use Rattle.pixels.specs.declared.Dimensions.{Dimensions}
use Rattle.pixels.specs.declared.Rect.{Rect}
use Rattle.pixels.specs.declared.Refusal.{Refusal}
use Rattle.pixels.specs.Refusals.{number}
use Rattle.pixels.specs.Sizes.{row_bytes, half_values, Side}
use Rattle.pixels.proofs.Fitting.{side_good, size_of_lem}
use Rattle.pixels.proofs.Numbers.{flagged_refused, buffer_refused}
use Rattle.pixels_layout.proofs.Matted.{restored_cong}
use Rattle.rows_form.specs.declared.RowForm.{RowForm}
use Rattle.rows_form.specs.declared.RowForm.TheVariants.{Pixels, Plain}
use Rattle.rows_form.specs.Form.{lanes_in, place_out, flag_in}
use Rattle.rows.specs.WorkRows.{scale_of, byte_out}
use Rattle.rows_tests.specs.Tests.{scale_number}
use Rattle.rows_tests.proofs.Passing.{passed_of}
use Rattle.rows_out.specs.Scaled.{scaled_out, scaled_work}
use Rattle.rows_out.proofs.ScaleRow.{scale_made, scale_refused}
use Rattle.rows_restoring.specs.Restoring.{restore_number, restored_row}
use Rattle.rows_restoring.proofs.RestoreRow.{restore_passes, restore_made}
use Rattle.rows_out.specs.Inner.{finish_number, finish_flag, finish_out}
use Rattle.rows_out.specs.Out.{crop_size, used_of, out_number, row_made, out_flag, out_row, out_work}

-- ---- a row of scaled lanes, finished as its form asks; m is the target's width
pub record Finished (form : RowForm) (m : ℕ) (lanes : ℕ → ℕ) (row : List ℕ) : Type 0 where
  pub number_is : finish_number form m (length row) ≡ 0
  pub flag_is : finish_flag form m row ≡ flag_in form (tabulate (place_out form lanes) (row_bytes (lanes_in form) m)) m
  pub out_is : finish_out form m row ≡ tabulate (place_out form lanes) (row_bytes (lanes_in form) m)

finished : (form : RowForm) (m : ℕ) (lanes : ℕ → ℕ) (row : List ℕ) → Side m → row ≡ tabulate lanes (half_values (lanes_in form) m) → Finished form m lanes row
unfolding restored_row
finished (Pixels layout) m lanes row side row_is =
    let goes : restore_number m (length row) ≡ 0 = restore_passes m (length row) (side_good m side) (ap length row_is ∙ length_tabulate lanes (half_values 4 m)) in
    let made = restore_made layout m row goes in
    let same : restored_row layout m row ≡ tabulate (place_out (Pixels layout) lanes) (row_bytes 4 m) =
    tabulate_cong _ _ (row_bytes 4 m)
    (λ z l.
    restored_cong layout (λ x. get_or row x 0) lanes m z l
    (λ x u. ap (λ (s : List ℕ). get_or s x 0) row_is ∙ get_d_tabulate lanes (half_values 4 m) x u)) in
    record {
      number_is = goes;
      flag_is = made.0 ∙ ap (λ (s : List ℕ). flag_in (Pixels layout) s m) same;
      out_is = made.1 ∙ same;
    }
finished (Plain lane_count) m lanes row side row_is = record { number_is = refl; flag_is = refl; out_is = row_is }

module _ (form : RowForm) (crop : Rect) (target : Dimensions) (k y : ℕ) (out work : List ℕ) where
  abbrev told : ℕ
  told = out_number (lanes_in form) crop target k y (length out) (length work)

  -- number, flag, output and work rows, as the contract states them
  abbrev pub Answer : ℕ → Bool → List ℕ → List ℕ → Type 0
  Answer n flag out' work' =
      (n ≡ told)
      × ((flag ≡ out_flag form crop target k y (length out) work)
      × ((out' ≡ out_row form crop target k y out work) × (work' ≡ out_work (lanes_in form) crop target k y (length out) work)))

  -- u is what the code has for the crop rows used
  module _ (u : ℕ) (u-is : u ≡ used_of crop k) (row next : List ℕ) (row_is : row ≡ scaled_out (lanes_in form) (crop_size crop) target u y out work)
      (next_is : next ≡ scaled_work (lanes_in form) (crop_size crop) target u y (length out) work) where
    next_there : next ≡ out_work (lanes_in form) crop target k y (length out) work
    next_there = rw u-is at next_is

    lanes_there : row ≡ scaled_out (lanes_in form) (crop_size crop) target (used_of crop k) y out work
    lanes_there = rw u-is at row_is

    -- ---- a refusal is handed on
    pub out_refused : (why : Refusal) → number why ≡ scale_number (lanes_in form) (crop_size crop) target u y (length out) (length work) → Answer (number why) false row next
    unfolding out_flag out_row
    out_refused why e' =
        let e : number why ≡ told = rw u-is at e' in
        let kept : row ≡ out = lanes_there ∙ sym (scale_refused (lanes_in form) (crop_size crop) target (used_of crop k) y out work why e).1.0 in
        (e, ((flagged_refused why told _ (sym e)).1, (kept ∙ (buffer_refused why told _ out (sym e)).1, next_there)))

    -- ---- the row is made
    module _ (e' : 0 ≡ scale_number (lanes_in form) (crop_size crop) target u y (length out) (length work)) where
      e : 0 ≡ told
      e = rw u-is at e'

      abbrev lanes : ℕ → ℕ
      lanes = byte_out (scale_of (lanes_in form) (crop_size crop) target) (used_of crop k) y work

      row_finished : Finished form target.width lanes row
      row_finished =
          let sides = size_of_lem target (passed_of (lanes_in form) (crop_size crop) target (used_of crop k) y (length out) (length work) (sym e)).target_fits in
          finished form target.width lanes row sides.0 (lanes_there ∙ (scale_made (lanes_in form) (crop_size crop) target (used_of crop k) y out work (sym e)).0)

      pub out_made : (n : ℕ) (flag : Bool) (last : List ℕ) → n ≡ finish_number form target.width (length row) → flag ≡ finish_flag form target.width row
          → last ≡ finish_out form target.width row → Answer n flag last next
      unfolding out_flag out_row row_made
      out_made n flag last n-is flag_is last_is =
          let f = row_finished in
          (n-is ∙ f.number_is ∙ e, (flag_is ∙ f.flag_is ∙ rw (← e) refl, (last_is ∙ f.out_is ∙ rw (← e) refl, next_there)))

-- ---- where the number is 0
module _ (form : RowForm) (crop : Rect) (target : Dimensions) (k y : ℕ) (out work : List ℕ) (goes : out_number (lanes_in form) crop target k y (length out) (length work) ≡ 0) where
  pub flag_written : out_flag form crop target k y (length out) work ≡ flag_in form (row_made form crop target k y work) target.width
  unfolding out_flag
  flag_written = simp goes

  pub row_written_lem : out_row form crop target k y out work ≡ row_made form crop target k y work
  unfolding out_row
  row_written_lem = simp goes
