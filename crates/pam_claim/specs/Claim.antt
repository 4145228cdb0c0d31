-- "reading its output yields the same size and bytes": the theorem, stated. proofs/Theorem proves it. Assumes nothing.
use Rattle.std.specs.Prelude.{ℕ, ◌≡◌, List, length}
use Rattle.pixels.specs.declared.Dimensions.{Dimensions}
use Rattle.pam_reading.specs.Reading.{pam_number, pam_size, pam_pixels}
use Rattle.pam_writing.specs.Writing.{write_number, write_out}

-- a file is read without a refusal, and gives the size and the pixels: what `pam_size` and `pam_pixels` promise of it
pub record ReadsBack (size : Dimensions) (pixels file : List ℕ) : Type 0 where
  pub number : pam_number file ≡ 0
  pub same_size : pam_size file ≡ size
  pub same_pixels : pam_pixels file ≡ pixels

-- wherever `pam_write` refuses nothing, its output reads back
unfoldable pub RoundTrip : Type 0
RoundTrip = (size : Dimensions) (pixels out : List ℕ) → write_number size (length pixels) (length out) ≡ 0 → ReadsBack size pixels (write_out size pixels out)
