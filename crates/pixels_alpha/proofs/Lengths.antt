-- What a picture and a plane that pass have: their lengths. Assumes nothing.
use Prim.Native.Nat.{ℕ, ◌*◌}
use mathlib.Core.Path.{◌≡◌}
use Rattle.pixels.specs.declared.Dimensions.{Dimensions}
use Rattle.pixels.specs.Sizes.{pixel_lanes, picture_bytes}
use Rattle.pixels.proofs.Truths.{same_of}
use Rattle.pixels.proofs.Causes.{none_applies}
use Rattle.pixels_alpha.specs.Alpha.{picture_causes, picture_number, alpha_causes, alpha_number}

pub picture_long : (size : Dimensions) (n : ℕ) → picture_number size n ≡ 0 → n ≡ picture_bytes pixel_lanes size.width size.height
unfolding picture_number
picture_long size n e = same_of n _ (none_applies (picture_causes size n) e).1.0

pub record AlphaFits (size : Dimensions) (n m : ℕ) : Type 0 where
  pub picture : n ≡ picture_bytes pixel_lanes size.width size.height
  pub plane : m ≡ size.width * size.height

pub alpha_fits : (size : Dimensions) (n m : ℕ) → alpha_number size n m ≡ 0 → AlphaFits size n m
unfolding alpha_number
alpha_fits size n m e =
    let p = none_applies (alpha_causes size n m) e in
    record { picture = same_of n _ p.1.0; plane = same_of m _ p.1.1.0 }
