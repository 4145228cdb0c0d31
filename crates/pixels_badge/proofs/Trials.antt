-- Pixels worked out by hand: an Rgba8 badge over a Bgra8 background, translucent, clear and opaque. Assumes nothing.
use Prim.Native.Nat.{ℕ}
use mathlib.Core.Path.{◌≡◌, refl}
use mathlib.Core.List.{List, [], ◌∷◌}
use Rattle.arithmetic.specs.Matte.{matte_factor, scale_colour}
use Rattle.arithmetic.specs.Table.{tabulate}
use Rattle.pixels_layout.specs.declared.PixelLayout.TheVariants.{Rgba8, Bgra8}
use Rattle.pixels_badge.specs.Badge.{matted, blended, laid_of, laid_byte, laid}

abbrev background : List ℕ
background = 10 ∷ 20 ∷ 30 ∷ 255 ∷ []

-- 200, 100 and 50 matted by 128 are 100, 50 and 25; 30, 20 and 10 matted by 127 are 15, 10 and 5
pub translucent : laid Bgra8 background Rgba8 (200 ∷ 100 ∷ 50 ∷ 128 ∷ []) ≡ 30 ∷ 60 ∷ 115 ∷ 255 ∷ []
unfolding laid laid_byte laid_of blended matted scale_colour matte_factor tabulate
translucent = refl

pub clear : laid Bgra8 background Rgba8 (200 ∷ 100 ∷ 50 ∷ 0 ∷ []) ≡ background
unfolding laid laid_byte laid_of blended matted scale_colour matte_factor tabulate
clear = refl

pub opaque : laid Bgra8 background Rgba8 (200 ∷ 100 ∷ 50 ∷ 255 ∷ []) ≡ 50 ∷ 100 ∷ 200 ∷ 255 ∷ []
unfolding laid laid_byte laid_of blended matted scale_colour matte_factor tabulate
opaque = refl
