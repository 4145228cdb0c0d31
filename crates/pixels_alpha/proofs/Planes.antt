-- An alpha plane written: the bytes at the alpha places are the plane's, all others stay, and the flag is the plane's. Assumes nothing.
use Prim.Native.Nat.{ℕ, ◌+◌, ◌*◌, ◌/◌, ◌%◌, ◌≤◌, ◌<◌}
use mathlib.Core.Path.{◌≡◌, refl, sym, ap, ◌∙◌}
use mathlib.Core.Bool.{true, false, cond}
use mathlib.Core.List.{List}
use mathlib.Core.Logic.{◌⊎◌, inl, inr, ⊎_elim}
use native.Mathlib.Omega.{arith}
use lib.Dec.{eqb, ltb}
use lib.ListN.{length, get_or, set}
use lib.Seq.{get_or-set_same, get_or-set_other}
use borrow.Author.Tests.{eq-eqb, ne_eqb, eqb-true, eqb-false, lt-ltb, le-ltb, ltb-true, ltb-false}
use Rattle.arithmetic.specs.Table.{tabulate}
use Rattle.arithmetic.proofs.Tables.{tabulate_is, get_d_tabulate, length_tabulate}
use Rattle.pixels_layout.specs.declared.PixelLayout.{PixelLayout}
use Rattle.pixels.specs.Sizes.{pixel_lanes}
use Rattle.pixels.proofs.Truths.{test}
use Rattle.pixels_layout.specs.Layout.{place_of, alpha_lane, alpha_at}
use Rattle.pixels_alpha.specs.Alpha.{some_clear, has_alpha, alpha_byte, with_alpha}
use Rattle.pixels_layout.proofs.Tabled.{place_lt}
use Rattle.pixels_alpha.proofs.Flags.{clear_cong}

-- byte x once the first n pixels have their alpha
abbrev pub partly : ℕ → List ℕ → List ℕ → ℕ → ℕ → ℕ
partly a pixels plane n x = cond (ltb (x / pixel_lanes) n) (alpha_byte a pixels plane x) (get_or pixels x 0)

pub partly_first : (a : ℕ) (pixels plane : List ℕ) (x : ℕ) → get_or pixels x 0 ≡ partly a pixels plane 0 x
partly_first a pixels plane x = simp (le-ltb (x / pixel_lanes) 0 (omega arith))

module _ (a : ℕ) (small : a < pixel_lanes) (pixels plane : List ℕ) where
  alpha_here : (x n : ℕ) → x ≡ pixel_lanes * n + a → alpha_byte a pixels plane x ≡ get_or plane n 0
  unfolding alpha_byte
  alpha_here x n e =
      let r : x % pixel_lanes ≡ a = omega arith in
      let q : x / pixel_lanes ≡ n = omega arith in
      simp (eq-eqb (x % pixel_lanes) (a) r, q)

  alpha_elsewhere : (x : ℕ) → (x % pixel_lanes ≡ a → ⊥) → alpha_byte a pixels plane x ≡ get_or pixels x 0
  unfolding alpha_byte
  alpha_elsewhere x h = simp (ne_eqb (x % pixel_lanes) (a) h)

  partly_before : (n x : ℕ) → x / pixel_lanes < n → partly a pixels plane n x ≡ alpha_byte a pixels plane x
  partly_before n x h = simp (lt-ltb (x / pixel_lanes) n h)

  partly_after : (n x : ℕ) → n ≤ x / pixel_lanes → partly a pixels plane n x ≡ get_or pixels x 0
  partly_after n x h = simp (le-ltb (x / pixel_lanes) n h)

  -- one pixel more changes its alpha byte alone
  partly_other : (n x : ℕ) → (x ≡ pixel_lanes * n + a → ⊥) → partly a pixels plane n x ≡ partly a pixels plane (n + 1) x
  partly_other n x other =
      ⊎_elim
      (λ t. let h = ltb-true (x / pixel_lanes) n t in partly_before n x h ∙ sym (partly_before (n + 1) x (omega arith)))
      (λ t. let h = ltb-false (x / pixel_lanes) n t in partly_after n x h ∙ sym (later h (test (ltb (x / pixel_lanes) (n + 1)))))
      (test (ltb (x / pixel_lanes) n))
    where
      later : n ≤ x / pixel_lanes → (ltb (x / pixel_lanes) (n + 1) ≡ true) ⊎ (ltb (x / pixel_lanes) (n + 1) ≡ false) → partly a pixels plane (n + 1) x ≡ get_or pixels x 0
      later h (inl t) =
          let k = ltb-true (x / pixel_lanes) (n + 1) t in
          partly_before (n + 1) x k ∙ alpha_elsewhere x (λ r. other (omega arith))
      later h (inr f) = partly_after (n + 1) x (ltb-false (x / pixel_lanes) (n + 1) f)

  -- a turn of the loop that writes
  pub partly_turn : (px : List ℕ) (n : ℕ) → pixel_lanes * n + a < length px → ((x : ℕ) → get_or px x 0 ≡ partly a pixels plane n x) → (x : ℕ) → get_or (set px (pixel_lanes * n + a) (get_or plane n 0)) x 0 ≡ partly a pixels plane (n + 1) x
  partly_turn px n room h x = turn (test (eqb x (pixel_lanes * n + a)))
    where
      turn : (eqb x (pixel_lanes * n + a) ≡ true) ⊎ (eqb x (pixel_lanes * n + a) ≡ false) → get_or (set px (pixel_lanes * n + a) (get_or plane n 0)) x 0 ≡ partly a pixels plane (n + 1) x
      turn (inl t) =
          let e = eqb-true x (pixel_lanes * n + a) t in
          ap (λ (y : ℕ). get_or (set px (pixel_lanes * n + a) (get_or plane n 0)) y 0) e
          ∙ get_or-set_same px (pixel_lanes * n + a) (get_or plane n 0) 0 room
          ∙ sym (partly_before (n + 1) x (omega arith) ∙ alpha_here x n e)
      turn (inr f) =
          let d = eqb-false x (pixel_lanes * n + a) f in
          get_or-set_other px (pixel_lanes * n + a) x (get_or plane n 0) 0 d ∙ h x ∙ partly_other n x d

  pub partly_done : (px : List ℕ) → length pixels ≡ pixel_lanes * length plane → length px ≡ length pixels → ((x : ℕ) → get_or px x 0 ≡ partly a pixels plane (length plane) x) → px ≡ tabulate (alpha_byte a pixels plane) (length pixels)
  partly_done px whole long h =
      tabulate_is (alpha_byte a pixels plane) px (λ x l. h x ∙ partly_before (length plane) x (omega arith))
      ∙ ap (tabulate (alpha_byte a pixels plane)) long

-- an end in itself: the new flag is the plane's, whatever the pixels were
pub plane_flag : (l : PixelLayout) (pixels plane : List ℕ) → length pixels ≡ pixel_lanes * length plane → has_alpha l (with_alpha l pixels plane) (length plane) ≡ some_clear (λ i. get_or plane i 0) (length plane)
unfolding has_alpha with_alpha
plane_flag l pixels plane whole =
    let p = place_lt l alpha_lane (omega arith) in
    clear_cong (alpha_at l (with_alpha l pixels plane)) (λ i. get_or plane i 0) (length plane)
    (λ i h.
    get_d_tabulate (alpha_byte (place_of l alpha_lane) pixels plane) (length pixels) (pixel_lanes * i + place_of l alpha_lane) (omega arith)
    ∙ alpha_here (place_of l alpha_lane) p pixels plane (pixel_lanes * i + place_of l alpha_lane) i refl)

pub with_length : (l : PixelLayout) (pixels plane : List ℕ) → length (with_alpha l pixels plane) ≡ length pixels
unfolding with_alpha
with_length l pixels plane = length_tabulate (alpha_byte (place_of l alpha_lane) pixels plane) (length pixels)
