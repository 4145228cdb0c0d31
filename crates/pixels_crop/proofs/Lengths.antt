-- What a crop that passes has: its sizes fit and both buffers have their lengths. Assumes nothing.
use Prim.Native.Nat.{ℕ}
use mathlib.Core.Path.{◌≡◌}
use Rattle.pixels.specs.declared.Dimensions.{Dimensions}
use Rattle.pixels.specs.declared.Rect.{Rect}
use Rattle.pixels.specs.Sizes.{pixel_lanes, picture_bytes, sizes_causes, sizes_number, Fits}
use Rattle.pixels.proofs.Truths.{same_of}
use Rattle.pixels.proofs.Causes.{none_applies, first_none}
use Rattle.pixels.proofs.Fitting.{fits_of}
use Rattle.pixels_crop.specs.Crop.{crop_causes, crop_number}

pub record CropFits (source : Dimensions) (crop : Rect) (n m : ℕ) : Type 0 where
  pub sizes : Fits source crop source
  pub picture : n ≡ picture_bytes pixel_lanes source.width source.height
  pub output : m ≡ picture_bytes pixel_lanes crop.width crop.height

pub crop_fits : (source : Dimensions) (crop : Rect) (n m : ℕ) → crop_number source crop n m ≡ 0 → CropFits source crop n m
unfolding crop_number sizes_number
crop_fits source crop n m e =
    let p = none_applies (crop_causes source crop n m) e in
    record {
      sizes = fits_of source crop source (first_none (sizes_causes source crop source) (p.0, (p.1.0, tt)));
      picture = same_of n _ p.1.1.0;
      output = same_of m _ p.1.1.1.0;
    }
