-- What is shown of every badge that is laid, to be read beside document 02, 8. Assumes nothing.
use Rattle.std.specs.Prelude.{ℕ, ◌*◌, ◌≤◌, ◌<◌, ◌≡◌, false, List, length, get_or}
use Rattle.pixels.specs.declared.Dimensions.{Dimensions}
use Rattle.pixels.specs.Sizes.{pixel_lanes}
use Rattle.pixels_layout.specs.declared.PixelLayout.{PixelLayout}
use Rattle.pixels_layout.specs.Layout.{alpha_lane, lane_at, alpha_at}
use Rattle.pixels_alpha.specs.Alpha.{has_alpha}
use Rattle.pixels_badge.specs.Badge.{blended, badge_number, badge_out}

-- a slice of bytes
abbrev pub AllBytes : List ℕ → Type 0
AllBytes s = (x : ℕ) → get_or s x 0 ≤ 255

-- out is the background of n pixels after the badge was laid on it, lane k of each pixel i
pub record LaidClaim (n : ℕ) (layout : PixelLayout) (pixels : List ℕ) (from : PixelLayout) (badge out : List ℕ) : Type 0 where
  pub long : length out ≡ length pixels
  -- "For badge alpha 0 the background stays"
  pub stays : (i k : ℕ) → i < n → k < pixel_lanes → alpha_at from badge i ≡ 0 → lane_at layout out i k ≡ lane_at layout pixels i k
  -- "for 255 the badge replaces it"
  pub replaced : (i k : ℕ) → i < n → k < pixel_lanes → alpha_at from badge i ≡ 255 → lane_at layout out i k ≡ lane_at from badge i k
  -- "Between those, each colour is the badge colour matted by its alpha plus the background colour matted by 255 less that alpha": at 0 and at 255 too
  pub colour : (i k : ℕ) → i < n → k < alpha_lane → lane_at layout out i k ≡ blended (alpha_at from badge i) (lane_at from badge i k) (lane_at layout pixels i k)
  -- "and the result is opaque"
  pub opaque : has_alpha layout out n ≡ false

pub record BadgeTheorem : Type 0 where
  -- "That no such sum passes 255 is to be shown"
  pub no_sum_passes : (a c d : ℕ) → a ≤ 255 → c ≤ 255 → d ≤ 255 → blended a c d ≤ 255
  -- of every call that goes through, whatever the two layouts
  pub laid_so : (size : Dimensions) (layout : PixelLayout) (pixels : List ℕ) (badgeSize : Dimensions) (from : PixelLayout) (badge : List ℕ)
      → AllBytes pixels → AllBytes badge → badge_number size layout pixels badgeSize (length badge) ≡ 0
      → LaidClaim (size.width * size.height) layout pixels from badge (badge_out size layout pixels badgeSize from badge)
