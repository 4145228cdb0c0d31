-- What the writer of PAM pictures writes, and its numbers. Assumes nothing.
use Rattle.std.specs.Prelude.{ℕ, ◌+◌, List, [], ◌∷◌, ◌++◌, length}
use Rattle.pixels.specs.declared.Dimensions.{Dimensions}
use Rattle.pixels.specs.declared.Refusal.TheVariants.{PixelBufferMismatch, OutputLength}
use Rattle.pixels.specs.Refusals.{Cause, first, other_length, buffer_if}
use Rattle.pixels.specs.Sizes.{pixel_lanes, picture_bytes, wrong_size}
use Rattle.pam_heading.specs.Heading.{heading}

-- the header, then the pixels
abbrev pub written : Dimensions → List ℕ → List ℕ
written size pixels = heading size ++ pixels

abbrev pub file_bytes : Dimensions → ℕ
file_bytes size = length (heading size) + picture_bytes pixel_lanes size.width size.height

-- 1, 3, 4, of n bytes of pixels and m of output
abbrev pub write_causes : Dimensions → ℕ → ℕ → List Cause
write_causes size n m =
    wrong_size size
    ∷ other_length n (picture_bytes pixel_lanes size.width size.height) PixelBufferMismatch
    ∷ other_length m (file_bytes size) OutputLength
    ∷ []

unfoldable pub write_number : Dimensions → ℕ → ℕ → ℕ
write_number size n m = first (write_causes size n m)

unfoldable pub write_out : Dimensions → List ℕ → List ℕ → List ℕ
write_out size pixels out = buffer_if (write_number size (length pixels) (length out)) (written size pixels) out
