-- A PAM picture: the numbers of the reader, its size and its pixels. Assumes nothing.
use Rattle.std.specs.Prelude.{ℕ, ◌+◌, List, [], ◌∷◌, ◌++◌, length, drop}
use Rattle.pixels.specs.declared.Dimensions.{Dimensions}
use Rattle.pixels.specs.declared.Refusal.TheVariants.{PixelBufferMismatch}
use Rattle.pixels.specs.Refusals.{Cause, first, other_length, size_if, buffer_if}
use Rattle.pixels.specs.Sizes.{pixel_lanes, picture_bytes}
use Rattle.pam_header.specs.Header.{header_causes, size_said, pixels_from}

-- the bytes of a file with that header
abbrev pub whole_bytes : List ℕ → ℕ
whole_bytes s = pixels_from s + picture_bytes pixel_lanes (size_said s).width (size_said s).height

-- 11, 12, 1, "with 3 for missing or extra pixel bytes"
abbrev pub pam_causes : List ℕ → List Cause
pam_causes s = header_causes s ++ (other_length (length s) (whole_bytes s) PixelBufferMismatch ∷ [])

unfoldable pub pam_number : List ℕ → ℕ
pam_number s = first (pam_causes s)

unfoldable pub pam_size : List ℕ → Dimensions
pam_size s = size_if (pam_number s) (size_said s)

-- "the pixels as a part of its input"
unfoldable pub pam_pixels : List ℕ → List ℕ
pam_pixels s = buffer_if (pam_number s) (drop (pixels_from s) s) []
