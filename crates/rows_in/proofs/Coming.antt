-- A source row above or below the crop changes nothing; one inside it is put. Assumes nothing.
use Prim.Native.Nat.{ℕ, ◌+◌, ◌-◌, ◌≤◌, ◌<◌}
use mathlib.Core.Path.{◌≡◌, sym, ◌∙◌}
use mathlib.Core.Bool.{true, false}
use mathlib.Core.List.{List}
use native.Mathlib.Omega.{arith}
use lib.ListN.{length}
use borrow.Author.Tests.{le-leb, lt-leb, lt-ltb, le-ltb}
use Rattle.pixels.specs.declared.Dimensions.{Dimensions}
use Rattle.pixels.specs.declared.Rect.{Rect}
use Rattle.pixels.specs.Sizes.{size_of}
use Rattle.rows_form.specs.declared.RowForm.{RowForm}
use Rattle.rows_form.specs.Form.{lanes_in}
use Rattle.rows_adding.specs.Put.{put_number, put_work}
use Rattle.rows_in.specs.In.{in_crop, part_of, in_number, in_work}

module _ (crop : Rect) (s : ℕ) where
  pub crop_above : s < crop.y → in_crop crop s ≡ false
  crop_above l = simp (lt-leb crop.y s l)

  pub crop_below : crop.y ≤ s → crop.height ≤ s - crop.y → in_crop crop s ≡ false
  crop_below a l = simp (le-leb crop.y s a, le-ltb s (crop.y + crop.height) (omega arith))

  pub crop_inside : crop.y ≤ s → s - crop.y < crop.height → in_crop crop s ≡ true
  crop_inside a l = simp (le-leb crop.y s a, lt-ltb s (crop.y + crop.height) (omega arith))

module _ (form : RowForm) (crop : Rect) (target : Dimensions) (s : ℕ) (row work : List ℕ) where
  abbrev size : Dimensions
  size = size_of crop.width crop.height

  -- number and work rows, as the contract states them
  abbrev pub Answer : ℕ → List ℕ → Type 0
  Answer n next = (n ≡ in_number (lanes_in form) crop target s row (length work)) × (next ≡ in_work form crop target s row work)

  pub in_beside : in_crop crop s ≡ false → Answer 0 work
  unfolding in_number in_work
  in_beside o = (simp o, simp o)

  -- part is what the code has for the window
  pub in_put : in_crop crop s ≡ true → (part : List ℕ) → part ≡ part_of (lanes_in form) crop row → (n : ℕ) (next : List ℕ) → n ≡ put_number (lanes_in form) size target (length part) (length work)
      → next ≡ put_work form size target (s - crop.y) part work → Answer n next
  unfolding in_number in_work
  in_put o part part-is n next n-is next_is = (rw part-is at n-is ∙ sym (simp o), rw part-is at next_is ∙ sym (simp o))
