-- A call of restore_row: number 0 exactly if both tests pass, and the flag and the buffer with each number. Assumes nothing.
use Prim.Native.Nat.{ℕ, ◌≤◌, ◌<◌}
use Rattle.std.proofs.Common.{append-nil, drop_of_length-le, arith}
use mathlib.Core.Path.{◌≡◌, sym, ap, ◌∙◌}
use mathlib.Core.Bool.{Bool, false}
use mathlib.Core.List.{List}
use lib.ListN.{length, get_or}
use Rattle.arithmetic.specs.Table.{tabulate}
use Rattle.arithmetic.proofs.Tables.{length_tabulate}
use Rattle.pixels_layout.specs.declared.PixelLayout.{PixelLayout}
use Rattle.pixels_layout.specs.declared.PixelLayout.TheVariants.{Bgra8}
use Rattle.pixels.specs.declared.Refusal.{Refusal}
use Rattle.pixels.specs.Refusals.{number}
use Rattle.pixels.specs.Sizes.{pixel_lanes, bad_side, row_bytes}
use Rattle.pixels_layout.specs.Lanes.{restored_place}
use Rattle.pixels.proofs.Truths.{same, same_of}
use Rattle.pixels.proofs.Causes.{first_none, none_applies}
use Rattle.pixels.proofs.Numbers.{flagged_refused, buffer_refused}
use Rattle.pixels_alpha.specs.Alpha.{some_clear, has_alpha}
use Rattle.rows_restoring.specs.Restoring.{restore_causes, restore_number, restored_row, restored_out, row_flag}
use Rattle.rows_restoring.specs.Inner.Restoring.{pixels_in, pixels_made, alpha_in, restored_bytes, ordered_byte, ordered_bytes}
use Rattle.rows_restoring.proofs.RestoredPixels.{restored_ordered, restored_flag}

module _ (m outBytes : ℕ) where
  pub restore_passes : bad_side m ≡ false → outBytes ≡ row_bytes pixel_lanes m → restore_number m outBytes ≡ 0
  unfolding restore_number
  restore_passes e o = first_none (restore_causes m outBytes) (e, (same _ _ o, tt))

  -- a row that passes has its length
  pub restore_exact : restore_number m outBytes ≡ 0 → outBytes ≡ row_bytes pixel_lanes m
  unfolding restore_number
  restore_exact e = same_of _ _ (none_applies (restore_causes m outBytes) e).1.0

-- a row of m pixels and no more is all made
made_whole : (f : ℕ → ℕ) (s : List ℕ) (m : ℕ) → length s ≡ row_bytes pixel_lanes m → pixels_made f s ≡ tabulate f (row_bytes pixel_lanes m)
made_whole f s m e =
    let count : pixels_in s ≡ m = omega arith in
    let short : length s ≤ row_bytes pixel_lanes m = omega arith in
    rw (count, drop_of_length-le s short) (append-nil (tabulate f (row_bytes pixel_lanes m)))

-- ---- flag and buffer of a row that is restored, and of one that is not
module _ (l : PixelLayout) (m : ℕ) (out : List ℕ) where
  pub restore_made : restore_number m (length out) ≡ 0 → (row_flag l m out ≡ has_alpha l (restored_row l m out) m) × (restored_out l m out ≡ restored_row l m out)
  unfolding restored_out row_flag
  restore_made e = (simp e, simp e)

  pub restore_refused : (why : Refusal) → restore_number m (length out) ≡ number why
      → (number why ≡ restore_number m (length out)) × ((false ≡ row_flag l m out) × (out ≡ restored_out l m out))
  unfolding restored_out row_flag
  restore_refused why e = (sym e, ((flagged_refused why _ _ e).1, (buffer_refused why _ _ out e).1))

  pub restore_done : {flag : Bool} {lanes out' : List ℕ} → ((y : ℕ) → get_or out y 0 < 256) → restore_number m (length out) ≡ 0 → flag ≡ some_clear (alpha_in out) (pixels_in out)
      → lanes ≡ restored_bytes out → out' ≡ ordered_bytes l lanes
      → (0 ≡ restore_number m (length out)) × ((flag ≡ row_flag l m out) × (out' ≡ restored_out l m out))
  unfolding restored_row
  restore_done {lanes = lanes} small e f p q =
      let made = restore_made e in
      let long = restore_exact m (length out) e in
      let table = made_whole (restored_place Bgra8 (λ x. get_or out x 0)) out m long in
      let whole = p ∙ table in
      let still : length lanes ≡ row_bytes pixel_lanes m = ap length whole ∙ length_tabulate _ _ in
      let count : pixels_in out ≡ m = omega arith in
      let ordered = made_whole (ordered_byte l lanes) lanes m still in
      (sym e, (f ∙ rw count (restored_flag l out m small) ∙ sym made.0, q ∙ ordered ∙ rw whole (restored_ordered l (λ x. get_or out x 0) m) ∙ sym made.1))
