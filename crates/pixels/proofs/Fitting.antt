-- Sizes and crop pass numbers 1 and 2 exactly if the facts of `Fits` hold: both ways. Assumes nothing.
use Prim.Native.Nat.{ℕ, ◌+◌, ◌*◌, ◌/◌, ◌%◌, ◌≤◌, ◌<◌, ◌^◌}
use mathlib.Core.Path.{◌≡◌, sym, ap, ap₂, ◌∙◌}
use mathlib.Core.Bool.{Bool, true, false, cond, not, ◌||◌, or-true}
use mathlib.Core.Logic.{◌⊎◌, inl, inr}
use mathlib.Core.List.{List, [], ◌∷◌}
use native.Mathlib.Nat.{le_trans, mul-le-mul, mul-le-mul_left}
use native.Mathlib.Omega.{arith}
use lib.Dec.{eqb, ltb}
use borrow.Author.Tests.{eq-eqb, ne_eqb, lt-ltb, le-ltb, eqb-true, eqb-false, ltb-false}
use Rattle.pixels.specs.declared.Dimensions.{Dimensions}
use Rattle.pixels.specs.declared.Rect.{Rect}
use Rattle.pixels.specs.Refusals.{Cause, size_if}
use Rattle.pixels.specs.Sizes.{max_side, pixel_lanes, max_lanes, picture_bytes, bad_side, bad_size, bad_sizes, bad_lanes, empty_crop, crop_beyond, wrong_size, sizes_causes, size_number, sizes_number, Side, LaneCount, Fits, size_of, derived_side, scaled_width, scaled_height, scaled_size, scaled_number}
use Rattle.pixels.proofs.Numbers.{sized_accepted}
use Rattle.pixels.proofs.Truths.{test, neither_true, differ}
use Rattle.pixels.proofs.Causes.{first_at, first_none, none_applies}
use Rattle.arithmetic.specs.Quotient.{ceil}
use Rattle.arithmetic.proofs.Quotients.{ceil_le}

-- ---- a side, a size
pub side_of : (s : ℕ) → bad_side s ≡ false → Side s
unfolding bad_side
side_of s e =
    record {
      some = omega (arith, eqb-false s 0 (neither_true (eqb s 0) (ltb max_side s) e).0);
      most = ltb-false max_side s (neither_true (eqb s 0) (ltb max_side s) e).1;
    }

pub side_good : (s : ℕ) → Side s → bad_side s ≡ false
unfolding bad_side
side_good s h = simp (ne_eqb s 0 (λ e. omega arith), le-ltb max_side s h.most)

pub size_of_lem : (d : Dimensions) → bad_size d ≡ false → Side d.width × Side d.height
unfolding bad_size
size_of_lem d e =
    let p = neither_true (bad_side d.width) (bad_side d.height) e in
    (side_of d.width p.0, side_of d.height p.1)

pub size_good : (d : Dimensions) → Side d.width → Side d.height → bad_size d ≡ false
unfolding bad_size
size_good d w h = simp (side_good d.width w, side_good d.height h)

pub size_wide : (d : Dimensions) → bad_side d.width ≡ true → bad_size d ≡ true
unfolding bad_size
size_wide d e = simp e

pub size_high : (d : Dimensions) → bad_side d.height ≡ true → bad_size d ≡ true
unfolding bad_size
size_high d e = simp (e, or-true)

-- ---- a lane count
pub lanes_of_lem : (lanes : ℕ) → bad_lanes lanes ≡ false → LaneCount lanes
unfolding bad_lanes
lanes_of_lem lanes e =
    let p = neither_true (eqb lanes 0) (ltb max_lanes lanes) e in
    record { some = omega (arith, eqb-false lanes 0 p.0); most = ltb-false max_lanes lanes p.1 }

pub lanes_good : (lanes : ℕ) → LaneCount lanes → bad_lanes lanes ≡ false
unfolding bad_lanes
lanes_good lanes h = simp (ne_eqb lanes 0 (λ e. omega arith), le-ltb max_lanes lanes h.most)

-- ---- an empty crop, one beyond the source
pub empty_width : (r : Rect) → r.width ≡ 0 → empty_crop r ≡ true
unfolding empty_crop
empty_width r e = simp (eq-eqb r.width 0 e)

pub not_empty : (r : Rect) → 1 ≤ r.width → 1 ≤ r.height → empty_crop r ≡ false
unfolding empty_crop
not_empty r w h = simp (ne_eqb r.width 0 (λ e. omega arith), ne_eqb r.height 0 (λ e. omega arith))

pub beyond_right : (r : Rect) (d : Dimensions) → d.width < r.x + r.width → crop_beyond r d ≡ true
unfolding crop_beyond
beyond_right r d h = simp (lt-ltb _ _ h)

-- where the right edge is inside, the bottom edge decides
pub beyond_bottom : (r : Rect) (d : Dimensions) → r.x + r.width ≤ d.width → ltb d.height (r.y + r.height) ≡ crop_beyond r d
unfolding crop_beyond
beyond_bottom r d h = simp (le-ltb d.width (r.x + r.width) h)

pub within : (r : Rect) (d : Dimensions) → r.x + r.width ≤ d.width → r.y + r.height ≤ d.height → crop_beyond r d ≡ false
unfolding crop_beyond
within r d w h = simp (le-ltb _ _ w, le-ltb _ _ h)

-- ---- the number of one size
pub size_bad : (d : Dimensions) → bad_size d ≡ true → size_number d ≡ 1
unfolding size_number
size_bad d e = first_at (wrong_size d ∷ []) 0 tt e

pub size_passes : (d : Dimensions) → bad_size d ≡ false → size_number d ≡ 0
unfolding size_number
size_passes d e = first_none (wrong_size d ∷ []) (e, tt)

-- ---- the numbers of source, crop and target
module _ (source : Dimensions) (crop : Rect) (target : Dimensions) where
  -- what number 1 looks at
  pub wrong_source : bad_size source ≡ true → bad_sizes source crop target ≡ true
  wrong_source e = simp e

  pub wrong_target : bad_size target ≡ true → bad_sizes source crop target ≡ true
  wrong_target e = simp (e, or-true)

  pub wrong_crop : empty_crop crop ≡ true → bad_sizes source crop target ≡ true
  wrong_crop e = simp (e, or-true)

  pub right_sizes : bad_size source ≡ false → bad_size target ≡ false → empty_crop crop ≡ false → bad_sizes source crop target ≡ false
  right_sizes a b c = simp (a, b, c)

  pub sizes_wrong : bad_sizes source crop target ≡ true → sizes_number source crop target ≡ 1
  unfolding sizes_number
  sizes_wrong e = first_at (sizes_causes source crop target) 0 tt e

  pub sizes_beyond : bad_sizes source crop target ≡ false → crop_beyond crop source ≡ true → sizes_number source crop target ≡ 2
  unfolding sizes_number
  sizes_beyond a b = first_at (sizes_causes source crop target) 1 (a, tt) b

  pub sizes_pass : bad_sizes source crop target ≡ false → crop_beyond crop source ≡ false → sizes_number source crop target ≡ 0
  unfolding sizes_number
  sizes_pass a b = first_none (sizes_causes source crop target) (a, (b, tt))

  pub fits_good : Fits source crop target → sizes_number source crop target ≡ 0
  fits_good f =
      sizes_pass
      (right_sizes (size_good source f.source_width f.source_height) (size_good target f.target_width f.target_height)
      (not_empty crop f.crop_width f.crop_height)) (within crop source f.right f.bottom)

  pub fits_of : sizes_number source crop target ≡ 0 → Fits source crop target
  unfolding sizes_number empty_crop crop_beyond
  fits_of e =
      let p = none_applies (sizes_causes source crop target) e in
      let q = neither_true (bad_size source || bad_size target) (empty_crop crop) p.0 in
      let z = neither_true (bad_size source) (bad_size target) q.0 in
      let s = size_of_lem source z.0 in
      let t = size_of_lem target z.1 in
      let h = neither_true (eqb crop.width 0) (eqb crop.height 0) q.1 in
      let b = neither_true (ltb source.width (crop.x + crop.width)) (ltb source.height (crop.y + crop.height)) p.1.0 in
      record {
        source_width = s.0;
        source_height = s.1;
        target_width = t.0;
        target_height = t.1;
        crop_width = omega (arith, eqb-false crop.width 0 h.0);
        crop_height = omega (arith, eqb-false crop.height 0 h.1);
        right = ltb-false _ _ b.0;
        bottom = ltb-false _ _ b.1;
      }

-- ---- scaled sizes
module _ (source : Dimensions) (width height : ℕ) where
  abbrev causes : List Cause
  causes = wrong_size source ∷ wrong_size (scaled_size source width height) ∷ []

  pub scaled_source : bad_size source ≡ true → scaled_number source width height ≡ 1
  unfolding scaled_number
  scaled_source e = first_at causes 0 tt e

  module _ (good : bad_size source ≡ false) (w : ℕ) (is-w : w ≡ scaled_width source width height) where
    scaled_bad : bad_size (scaled_size source width height) ≡ true → scaled_number source width height ≡ 1
    unfolding scaled_number
    scaled_bad e = first_at causes 1 (good, tt) e

    pub scaled_wide : bad_side w ≡ true → scaled_number source width height ≡ 1
    scaled_wide e = scaled_bad (size_wide _ (rw is-w at e))

    module _ (h : ℕ) (is-h : h ≡ derived_side source.height source.width height w) where
      same_height : h ≡ scaled_height source width height
      same_height = is-h ∙ ap (derived_side source.height source.width height) is-w

      pub scaled_high : bad_side h ≡ true → scaled_number source width height ≡ 1
      scaled_high e = scaled_bad (size_high _ (rw same_height at e))

      pub scaled_good : bad_side w ≡ false → bad_side h ≡ false → (0 ≡ scaled_number source width height) × (size_of w h ≡ size_if (scaled_number source width height) (scaled_size source width height))
      unfolding scaled_number
      scaled_good e f =
          let z = first_none causes (good, (size_good _ (side_of _ (rw is-w at e)) (side_of _ (rw same_height at f)), tt)) in
          let p = sized_accepted _ (scaled_size source width height) z in
          (p.0, ap₂ size_of is-w same_height ∙ p.1)

-- a derived side is no larger than the product it is derived from, or than what was asked
pub derived_most : (own across side other : ℕ) → 1 ≤ across → own ≤ max_side → other < 2 ^ 32 → side < 2 ^ 32 → derived_side own across side other ≤ 2 ^ 46
unfolding derived_side
derived_most own across side other pos o h k = go (eqb side 0)
  where
    go : (b : Bool) → cond b (ceil (own * other) across) side ≤ 2 ^ 46
    go true =
        le_trans (ceil_le across pos (omega (arith, mul-le-mul_left (own * other) pos)))
        (mul-le-mul {n₁ = own} {m₁ = other} {n₂ = 16384} {m₂ = 4294967296} o (omega arith))
    go false = omega arith

-- a length that is no whole number of pixels is no picture's
pub ragged : (n w h : ℕ) → (n % pixel_lanes ≡ 0 → ⊥) → true ≡ not (eqb n (picture_bytes pixel_lanes w h))
ragged n w h e = sym (differ n (picture_bytes pixel_lanes w h) (λ f. e (omega arith)))

-- a length in whole pixels, compared pixel by pixel
pub pixels_alike : (n w h count : ℕ) → n % pixel_lanes ≡ 0 → count ≡ w * h → not (eqb (n / pixel_lanes) count) ≡ not (eqb n (picture_bytes pixel_lanes w h))
pixels_alike n w h count whole is = by (test (eqb (n / pixel_lanes) count))
  where
    by : (eqb (n / pixel_lanes) count ≡ true) ⊎ (eqb (n / pixel_lanes) count ≡ false) → not (eqb (n / pixel_lanes) count) ≡ not (eqb n (picture_bytes pixel_lanes w h))
    by (inl e) =
        let q : n ≡ picture_bytes pixel_lanes w h = omega (arith, eqb-true (n / pixel_lanes) count e) in
        simp (e, eq-eqb n (picture_bytes pixel_lanes w h) q)
    by (inr e) =
        let q : n ≡ picture_bytes pixel_lanes w h → ⊥ = λ f. eqb-false (n / pixel_lanes) count e (omega arith) in
        simp (e, ne_eqb n (picture_bytes pixel_lanes w h) q)
