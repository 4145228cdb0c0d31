-- The table of lane orders: its places lie within a pixel, and each row is its own inverse, so pack and unpack can both read it. Assumes nothing.
use Prim.Native.Nat.{ℕ, zero, suc, ◌<◌}
use mathlib.Core.Path.{◌≡◌, refl}
use native.Mathlib.Omega.{arith}
use lib.Dec.{lit<}
use Rattle.pixels_layout.specs.declared.PixelLayout.{PixelLayout}
use Rattle.pixels_layout.specs.declared.PixelLayout.TheVariants.{Rgba8, Argb8, Bgra8}
use Rattle.pixels_layout.specs.declared.Places.{Places}
use Rattle.pixels.specs.Sizes.{pixel_lanes}
use Rattle.pixels_layout.specs.Layout.{row_of, place_of, places_of}

-- what holds of each lane holds of every lane
pub each_lane : (P : ℕ → Type 0) → P 0 → P 1 → P 2 → P 3 → (k : ℕ) → k < pixel_lanes → P k
each_lane P a b c d zero h = a
each_lane P a b c d (suc zero) h = b
each_lane P a b c d (suc (suc zero)) h = c
each_lane P a b c d (suc (suc (suc zero))) h = d
each_lane P a b c d (suc (suc (suc (suc k)))) h = absurd (omega arith)

pub row_lt : (l : PixelLayout) → row_of l < 3
row_lt Rgba8 = lit< tt
row_lt Argb8 = lit< tt
row_lt Bgra8 = lit< tt

pub place_lt : (l : PixelLayout) (k : ℕ) → k < pixel_lanes → place_of l k < pixel_lanes
place_lt Rgba8 = each_lane (λ k. place_of Rgba8 k < pixel_lanes) (lit< tt) (lit< tt) (lit< tt) (lit< tt)
place_lt Argb8 = each_lane (λ k. place_of Argb8 k < pixel_lanes) (lit< tt) (lit< tt) (lit< tt) (lit< tt)
place_lt Bgra8 = each_lane (λ k. place_of Bgra8 k < pixel_lanes) (lit< tt) (lit< tt) (lit< tt) (lit< tt)

-- each row is its own inverse: the lane at the place of lane k is k
pub place_twice : (l : PixelLayout) (k : ℕ) → k < pixel_lanes → place_of l (place_of l k) ≡ k
place_twice Rgba8 = each_lane (λ k. place_of Rgba8 (place_of Rgba8 k) ≡ k) refl refl refl refl
place_twice Argb8 = each_lane (λ k. place_of Argb8 (place_of Argb8 k) ≡ k) refl refl refl refl
place_twice Bgra8 = each_lane (λ k. place_of Bgra8 (place_of Bgra8 k) ≡ k) refl refl refl refl

pub places_from : (l : PixelLayout) {b g r a : ℕ} → b ≡ place_of l 0 → g ≡ place_of l 1 → r ≡ place_of l 2 → a ≡ place_of l 3 → ◌≡◌ {A = Places} (record { b = b; g = g; r = r; a = a }) (places_of l)
places_from l pb pg pr pa = cc
