-- The theorem of the badge. Assumes nothing.
use Prim.Native.Nat.{ℕ, ◌*◌}
use mathlib.Core.Path.{◌≡◌, sym, ◌∙◌, subst}
use mathlib.Core.List.{List}
use native.Mathlib.Omega.{arith}
use lib.ListN.{length}
use Rattle.pixels.specs.declared.Dimensions.{Dimensions}
use Rattle.pixels_layout.specs.declared.PixelLayout.{PixelLayout}
use Rattle.pixels_layout.specs.Layout.{lane_at, alpha_at}
use Rattle.pixels_badge.specs.Badge.{laid, badge_number, badge_out}
use Rattle.pixels_badge.specs.Claim.{AllBytes, LaidClaim, BadgeTheorem}
use Rattle.pixels_badge.proofs.Sums.{blended_most, colour_laid}
use Rattle.pixels_badge.proofs.Laying.{laid_lane_lem, laid_length, lane_kept, lane_replaced, laid_opaque}
use Rattle.pixels_badge.proofs.Fitting.{PictureFits, picture_fits}

module _ (layout : PixelLayout) (pixels : List ℕ) (from : PixelLayout) (badge : List ℕ) (n : ℕ) (f : PictureFits layout pixels n) (whole : AllBytes pixels) (bytes : AllBytes badge) where
  claim : LaidClaim n layout pixels from badge (laid layout pixels from badge)
  claim =
      record {
        long = laid_length layout pixels from badge n f.long;
        stays = lane_kept layout pixels from badge n f.long;
        replaced = lane_replaced layout pixels from badge n f.long;
        colour = λ i k li lk.
            laid_lane_lem layout pixels from badge n f.long i k li (omega arith)
            ∙ colour_laid k (alpha_at from badge i) (lane_at from badge i k) (lane_at layout pixels i k) (bytes _) (whole _) (λ e. omega arith);
        opaque = laid_opaque layout pixels from badge n f.long f.opaque;
      }

laid_out : (size : Dimensions) (layout : PixelLayout) (pixels : List ℕ) (badgeSize : Dimensions) (from : PixelLayout) (badge : List ℕ)
    → badge_number size layout pixels badgeSize (length badge) ≡ 0 → badge_out size layout pixels badgeSize from badge ≡ laid layout pixels from badge
unfolding badge_out
laid_out size layout pixels badgeSize from badge z = simp z

pub badge_theorem : BadgeTheorem
badge_theorem =
    record {
      no_sum_passes = blended_most;
      laid_so = λ size layout pixels badgeSize from badge whole bytes z.
          subst (LaidClaim (size.width * size.height) layout pixels from badge) (sym (laid_out size layout pixels badgeSize from badge z))
          (claim layout pixels from badge (size.width * size.height) (picture_fits size layout pixels badgeSize badge z) whole bytes);
    }
