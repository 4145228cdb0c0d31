-- Packing and unpacking undo each other (SCOPE, "Lanes"): the round trips of what the contracts of pack, unpack, pack_pixels and unpack_pixels cite.
-- proofs/Packing.antt proves all four. Assumes nothing.
use Rattle.std.specs.Prelude.{ℕ, ◌%◌, ◌^◌, ◌≤◌, ◌<◌, ◌≡◌, List, length, get_or}
use Rattle.pixels.specs.Sizes.{pixel_lanes}
use Rattle.pixels_layout.specs.declared.PixelLayout.{PixelLayout}
use Rattle.pixels_layout.specs.Layout.{unpacked, packed, unpacked_pixels, packed_pixels}

-- every entry is a word; every entry is a byte
abbrev pub Words : List ℕ → Type 0
Words s = (i : ℕ) → get_or s i 0 < 2 ^ 32

abbrev pub Bytes : List ℕ → Type 0
Bytes s = (i : ℕ) → get_or s i 0 ≤ 255

pub record RoundTrips (l : PixelLayout) : Type 0 where
  -- a pixel AARRGGBB, packed and unpacked; four bytes, unpacked and packed
  pub pixel : (argb : ℕ) → argb < 2 ^ 32 → unpacked l (packed l argb) ≡ argb
  pub four : (s : List ℕ) → length s ≡ pixel_lanes → Bytes s → packed l (unpacked l s) ≡ s
  -- slices of any length; bytes that make no pixel are ignored, so they do not come back
  pub pixels : (argb : List ℕ) → Words argb → unpacked_pixels l (packed_pixels l argb) ≡ argb
  pub bytes : (s : List ℕ) → length s % pixel_lanes ≡ 0 → Bytes s → packed_pixels l (unpacked_pixels l s) ≡ s
