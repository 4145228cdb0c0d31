-- The header's number is handed on; else the length decides. Assumes nothing.
use Prim.Native.Nat.{ℕ, ◌+◌}
use mathlib.Core.Path.{◌≡◌, sym, ◌∙◌, ap, ap₂}
use mathlib.Core.Bool.{Bool, true, false, not}
use mathlib.Core.List.{List, [], ◌∷◌}
use lib.Dec.{eqb}
use lib.ListN.{length, drop}
use Rattle.pixels.specs.declared.Dimensions.{Dimensions}
use Rattle.pixels.specs.declared.Refusal.{Refusal}
use Rattle.pixels.specs.declared.Refusal.TheVariants.{PixelBufferMismatch}
use Rattle.pixels.specs.Refusals.{number, Cause, no_size, other_length}
use Rattle.pixels.specs.Sizes.{pixel_lanes, picture_bytes}
use Rattle.pixels.proofs.Causes.{first_at, first_none, first_past, first_stays}
use Rattle.pixels.proofs.Numbers.{not_zero, sized_refused}
use Rattle.pam_header.specs.Header.{header_causes, header_number, header_size, header_start, size_said, pixels_from}
use Rattle.pam_reading.specs.Reading.{whole_bytes, pam_number, pam_size, pam_pixels}

-- ---- a refusal, whoever told it
module _ (s : List ℕ) (why : Refusal) (e : pam_number s ≡ number why) where
  pub no_size_lem : (number why ≡ pam_number s) × (no_size ≡ pam_size s)
  unfolding pam_size
  no_size_lem = sized_refused why (pam_number s) (size_said s) e

  pub no_pixels : [] ≡ pam_pixels s
  unfolding pam_pixels
  no_pixels = simp (not_zero why (pam_number s) e)

pub header_refused : (s : List ℕ) (why : Refusal) → number why ≡ header_number s → pam_number s ≡ number why
unfolding pam_number header_number
header_refused s why e = first_stays why (header_causes s) (other_length (length s) (whole_bytes s) PixelBufferMismatch ∷ []) (sym e)

-- ---- a header that passed
module _ (s : List ℕ) (size : Dimensions) (start : ℕ) (n : 0 ≡ header_number s) (d : size ≡ header_size s) (a : start ≡ header_start s) where
  size_is : size ≡ size_said s
  unfolding header_size
  size_is = d ∙ simp (sym n)

  start_is : start ≡ pixels_from s
  unfolding header_start
  start_is = a ∙ simp (sym n)

  abbrev last : List Cause
  last = other_length (length s) (whole_bytes s) PixelBufferMismatch ∷ []

  rest_is : (x : Bool) → x ≡ not (eqb (length s) (start + picture_bytes pixel_lanes size.width size.height)) → not (eqb (length s) (whole_bytes s)) ≡ x
  rest_is x e =
      sym (e ∙ ap₂ (λ (k : ℕ) (z : Dimensions). not (eqb (length s) (k + picture_bytes pixel_lanes z.width z.height))) start_is size_is)

  module _ (x : Bool) (e : x ≡ not (eqb (length s) (start + picture_bytes pixel_lanes size.width size.height))) where
    pub other_length_lem : x ≡ true → pam_number s ≡ 3
    unfolding pam_number header_number
    other_length_lem f = first_past (header_causes s) last (sym n) ∙ first_at last 0 tt (rest_is x e ∙ f)

    passes : x ≡ false → pam_number s ≡ 0
    unfolding pam_number header_number
    passes f = first_past (header_causes s) last (sym n) ∙ first_none last (rest_is x e ∙ f, tt)

    pub the_size : x ≡ false → (0 ≡ pam_number s) × (size ≡ pam_size s)
    unfolding pam_size
    the_size f = (sym (passes f), size_is ∙ simp (passes f))

    pub the_pixels : x ≡ false → drop start s ≡ pam_pixels s
    unfolding pam_pixels
    the_pixels f = ap (λ (k : ℕ). drop k s) start_is ∙ simp (passes f)
