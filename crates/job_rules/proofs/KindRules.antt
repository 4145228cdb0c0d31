-- What the rule of a record's kind gives: a lane count from 1 to 4 that is the lanes of its rows, and a flag that a plane never gets. Assumes nothing.
use Prim.Native.Nat.{ℕ}
use mathlib.Core.Path.{◌≡◌, refl, sym}
use mathlib.Core.Bool.{Bool, true, false, not, ◌||◌, or-false}
use mathlib.Core.Logic.{inl, inr}
use mathlib.Core.List.{List}
use native.Mathlib.Omega.{arith}
use lib.Dec.{eqb}
use borrow.Author.Tests.{eqb-true}
use Rattle.pixels.specs.Sizes.{pixel_lanes, bad_lanes, LaneCount}
use Rattle.pixels.proofs.Fitting.{lanes_of_lem, lanes_good}
use Rattle.pixels.proofs.Truths.{both_true, not_true}
use Rattle.pixels_layout.specs.declared.PixelLayout.{PixelLayout}
use Rattle.rows_form.specs.Form.{lanes_in, flag_in}
use Rattle.job_rules.specs.declared.Kind.{Kind}
use Rattle.job_rules.specs.declared.Kind.TheVariants.{Picture, Plane}
use Rattle.job_rules.specs.declared.Plan.{Plan}
use denote.Enum.Bare.{sameb}
use Rattle.job_rules.specs.contracts.Kind.{the_type as kind_type}
use Rattle.pixels_layout.specs.contracts.PixelLayout.{the_type as layout_type}
use Rattle.pixels_layout.specs.declared.PixelLayout.TheVariants.{Rgba8, Argb8, Bgra8}
use Rattle.job_rules.specs.Rules.{is_rgba, form_by, kind_fits, Formed}

module _ (layout : PixelLayout) (lanes : ℕ) (f : Bool) where
  plane_count : kind_fits Plane layout lanes f ≡ true → LaneCount lanes
  unfolding kind_fits
  plane_count e = lanes_of_lem lanes (not_true (bad_lanes lanes) (both_true (not (bad_lanes lanes)) (not f) (both_true (is_rgba layout) _ e).1).0)

  picture_count : kind_fits Picture layout lanes f ≡ true → lanes ≡ pixel_lanes
  unfolding kind_fits
  picture_count e = eqb-true lanes pixel_lanes e

  pub plane_flagless : kind_fits Plane layout lanes f ≡ true → f ≡ false
  unfolding kind_fits
  plane_flagless e = not_true f (both_true (not (bad_lanes lanes)) (not f) (both_true (is_rgba layout) _ e).1).1

pub lane_count : (kind : Kind) (layout : PixelLayout) (lanes : ℕ) (f : Bool) → kind_fits kind layout lanes f ≡ true → LaneCount lanes
lane_count Picture layout lanes f e = let q = picture_count layout lanes f e in record { some = omega arith; most = omega arith }
lane_count Plane layout lanes f e = plane_count layout lanes f e

-- the lanes of the record are those of its rows
pub lanes_form : (kind : Kind) (layout : PixelLayout) (lanes : ℕ) (f : Bool) → kind_fits kind layout lanes f ≡ true → lanes_in (form_by kind layout lanes) ≡ lanes
lanes_form Picture layout lanes f e = sym (picture_count layout lanes f e)
lanes_form Plane layout lanes f e = refl

-- a row more keeps the rule
pub kind_kept : (kind : Kind) (layout : PixelLayout) (lanes : ℕ) (f : Bool) (row : List ℕ) (w : ℕ) → kind_fits kind layout lanes f ≡ true
    → kind_fits kind layout lanes (f || flag_in (form_by kind layout lanes) row w) ≡ true
unfolding kind_fits
kind_kept Picture layout lanes f row w e = e
kind_kept Plane layout lanes f row w e = rw (or-false f) e

-- what a start forms keeps it
pub formed_fits : (p : Plan) → Formed p → LaneCount p.lanes → kind_fits p.kind p.layout p.lanes false ≡ true
unfolding kind_fits
formed_fits p (inl e) count = rw e refl
formed_fits p (inr e) count = rw e (simp (lanes_good p.lanes count))

-- ---- the rule as the code tests it, by the kind and the layout that it found
module _ (kind : Kind) (layout : PixelLayout) (lanes : ℕ) (f : Bool) where
  pub of_picture : kind ≡ Picture → eqb lanes pixel_lanes ≡ kind_fits kind layout lanes f
  unfolding kind_fits
  of_picture e = rw e refl

  module _ (plane : kind ≡ Plane) where
    pub other_layout : is_rgba layout ≡ false → false ≡ kind_fits kind layout lanes f
    unfolding kind_fits
    other_layout e = rw plane (simp e)

    module _ (rgba : is_rgba layout ≡ true) where
      pub other_lanes : bad_lanes lanes ≡ true → false ≡ kind_fits kind layout lanes f
      unfolding kind_fits
      other_lanes e = rw plane (simp (rgba, e))

      pub of_plane : bad_lanes lanes ≡ false → not f ≡ kind_fits kind layout lanes f
      unfolding kind_fits
      of_plane e = rw plane (simp (rgba, e))

-- ---- what the derived comparisons tell
pub is_picture : (kind : Kind) → true ≡ sameb kind_type kind Picture → kind ≡ Picture
is_picture Picture e = refl
is_picture Plane e = cc

pub is_plane : (kind : Kind) → false ≡ sameb kind_type kind Picture → kind ≡ Plane
is_plane Picture e = cc
is_plane Plane e = refl

pub rgba_told : (layout : PixelLayout) {b : Bool} → b ≡ not (sameb layout_type layout Rgba8) → is_rgba layout ≡ not b
rgba_told Rgba8 e = rw e refl
rgba_told Argb8 e = rw e refl
rgba_told Bgra8 e = rw e refl
