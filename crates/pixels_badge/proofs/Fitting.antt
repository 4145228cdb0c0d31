-- What two pictures that pass have: their lengths, one size, and an opaque background. Assumes nothing.
use Prim.Native.Nat.{ℕ, ◌*◌, ◌/◌}
use mathlib.Core.Path.{◌≡◌, refl, sym, ap, ◌∙◌}
use mathlib.Core.Bool.{Bool, true, false, not, ◌&&◌, ◌||◌}
use mathlib.Core.List.{List}
use native.Mathlib.Omega.{arith}
use lib.Dec.{eqb}
use lib.ListN.{length}
use Rattle.pixels.specs.declared.Dimensions.{Dimensions}
use Rattle.pixels.specs.Sizes.{pixel_lanes, picture_bytes}
use Rattle.pixels.proofs.Truths.{neither_true, same_of}
use Rattle.pixels.proofs.Causes.{Pass, none_applies}
use Rattle.pixels_layout.specs.declared.PixelLayout.{PixelLayout}
use Rattle.pixels_alpha.specs.Alpha.{has_alpha}
use Rattle.pixels_badge.specs.Badge.{other_size, both_causes, both_number, badge_causes, badge_number}
use Rattle.pixels_badge.specs.Inner.{LayAsks}

-- a length that is a picture's is that of so many pixels
whole : (n w h : ℕ) → n ≡ picture_bytes pixel_lanes w h → n / pixel_lanes ≡ w * h
whole n w h e = omega arith

-- what a background of n bytes that passes 1 and 3 has
module _ (size : Dimensions) (n : ℕ) (badgeSize : Dimensions) (m : ℕ) (z : both_number size n badgeSize m ≡ 0) where
  long : n ≡ picture_bytes pixel_lanes size.width size.height
  unfolding both_number
  long = same_of n _ (none_applies (both_causes size n badgeSize m) z).1.1.0

  -- whole pixels
  pub long_whole : n ≡ pixel_lanes * (n / pixel_lanes)
  long_whole = omega (arith, long)

  -- the flag of the bytes is that of the picture
  pub flag_is : (layout : PixelLayout) (pixels : List ℕ) {flag : Bool} → flag ≡ has_alpha layout pixels (n / pixel_lanes) → flag ≡ has_alpha layout pixels (size.width * size.height)
  flag_is layout pixels e = e ∙ ap (has_alpha layout pixels) (whole n size.width size.height long)

-- what a background that passes has, of n pixels
pub record PictureFits (layout : PixelLayout) (pixels : List ℕ) (n : ℕ) : Type 0 where
  pub long : length pixels ≡ pixel_lanes * n
  pub opaque : has_alpha layout pixels n ≡ false

module _ (size : Dimensions) (layout : PixelLayout) (pixels : List ℕ) (badgeSize : Dimensions) (badge : List ℕ)
    (z : badge_number size layout pixels badgeSize (length badge) ≡ 0) where
  tests : Pass (badge_causes size layout pixels badgeSize (length badge))
  unfolding badge_number
  tests = none_applies (badge_causes size layout pixels badgeSize (length badge)) z

  pub picture_fits : PictureFits layout pixels (size.width * size.height)
  picture_fits =
      let n = same_of (length pixels) _ tests.1.1.0 in
      record { long = omega arith; opaque = tests.1.1.1.1.1.0 }

  badge_alike : length badge ≡ length pixels
  badge_alike =
      let n = same_of (length pixels) _ tests.1.1.0 in
      let m = same_of (length badge) _ tests.1.1.1.0 in
      let o = neither_true (not (eqb size.width badgeSize.width)) (not (eqb size.height badgeSize.height)) tests.1.1.1.1.0 in
      m ∙ rw (← same_of size.width badgeSize.width o.0, ← same_of size.height badgeSize.height o.1) (sym n)

  -- what laying asks
  pub lay_fits : LayAsks layout pixels badge
  lay_fits =
      let f = picture_fits in
      let q : length pixels / pixel_lanes ≡ size.width * size.height = omega (arith, f.long) in
      record { long = omega (arith, f.long); alike = badge_alike; opaque = ap (has_alpha layout pixels) q ∙ f.opaque }

-- two sizes that are not the same are others: as the library compares them
pub sizes_differ : (a b : Dimensions) → not (eqb a.width b.width && eqb a.height b.height) ≡ other_size a b
sizes_differ a b = by (eqb a.width b.width) (eqb a.height b.height)
  where
    by : (p q : Bool) → not (p && q) ≡ (not p || not q)
    by true q = refl
    by false q = refl
