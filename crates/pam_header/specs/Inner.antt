-- The answer at the end of a header, from what the program holds of it. Assumes nothing.
use Rattle.std.specs.Prelude.{ℕ, Bool, true, false, not, ◌||◌, List, [], ◌∷◌, eqb, Option, is_none}
use Rattle.std.specs.Option.{unwrap_or}
use Rattle.pixels.specs.declared.Dimensions.{Dimensions}
use Rattle.pixels.specs.declared.Refusal.TheVariants.{PamMalformed, PamUnsupported}
use Rattle.pixels.specs.Refusals.{Cause, cause, first, size_if}
use Rattle.pixels.specs.Sizes.{size_of, wrong_size}
use Rattle.pam_seen.specs.declared.Seen.{Seen}
use Rattle.pam_seen.specs.declared.Types.{Types}
use Rattle.pam_seen.specs.declared.Types.TheVariants as types
use Rattle.pam_header.specs.Header.{start_if}

abbrev pub key_missing : Seen → Bool
key_missing t = is_none t.width || (is_none t.height || (is_none t.depth || is_none t.maxval))

-- the number held for a key; 0 where none was given
abbrev pub number_held : Option ℕ → ℕ
number_held n = unwrap_or n 0

abbrev pub is_rgb_alpha : Types → Bool
is_rgb_alpha types.Missing = false
is_rgb_alpha types.RgbAlpha = true
is_rgb_alpha types.Other = false

abbrev pub other_kind : Seen → Bool
other_kind t = not (eqb (number_held t.depth) 4) || (not (eqb (number_held t.maxval) 255) || not (is_rgb_alpha t.types))

abbrev pub size_held : Seen → Dimensions
size_held t = size_of (number_held t.width) (number_held t.height)

abbrev pub verdict_causes : Seen → List Cause
verdict_causes t = cause (key_missing t) PamMalformed ∷ cause (other_kind t) PamUnsupported ∷ wrong_size (size_held t) ∷ []

unfoldable pub verdict_number : Seen → ℕ
verdict_number t = first (verdict_causes t)

unfoldable pub verdict_size : Seen → Dimensions
verdict_size t = size_if (verdict_number t) (size_held t)

unfoldable pub verdict_start : Seen → ℕ → ℕ
verdict_start t start = start_if (verdict_number t) start
