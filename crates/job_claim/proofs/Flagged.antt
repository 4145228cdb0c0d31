-- The alpha flag of rows joined in order: that of the rows before, or that of the last row. So the flag that each take adds to is the flag of all the rows
-- taken. Why: the flag asks the pixels one after another, and each row is a whole number of pixels. Assumes nothing.
use Prim.Native.Nat.{ℕ, zero, suc, ◌+◌, ◌*◌, ◌<◌}
use mathlib.Core.Path.{◌≡◌, refl, sym, ap, ap₂, ◌∙◌}
use mathlib.Core.Bool.{false, not, ◌||◌, or-false, or_assoc}
use mathlib.Core.List.{List, [], ◌∷◌, ◌++◌, append-nil, append_assoc}
use native.Mathlib.Omega.{arith}
use lib.ListN.{length, get_or, length-append, get_or-append}
use lib.Seq.{get_or-append-add}
use lib.Dec.{eqb}
use Rattle.pixels_layout.specs.declared.PixelLayout.{PixelLayout}
use Rattle.pixels.specs.Sizes.{pixel_lanes, row_bytes}
use Rattle.pixels_layout.specs.Layout.{place_of, alpha_lane, alpha_at}
use Rattle.pixels_alpha.specs.Alpha.{some_clear, has_alpha}
use Rattle.pixels_layout.proofs.Tabled.{place_lt}
use Rattle.pixels_alpha.proofs.Flags.{clear_cong}
use Rattle.rows_form.specs.declared.RowForm.{RowForm}
use Rattle.rows_form.specs.declared.RowForm.TheVariants.{Pixels, Plain}
use Rattle.rows_form.specs.Form.{lanes_in, flag_in}
use Rattle.job_claim.specs.Rows.{joined}

-- ---- alphas, pixel after pixel
pub clear_append : (a : ℕ → ℕ) (n k : ℕ) → some_clear a (n + k) ≡ (some_clear a n || some_clear (λ i. a (n + i)) k)
unfolding some_clear
clear_append a n zero = let e : n + zero ≡ n = omega arith in rw e (sym (or-false (some_clear a n)))
clear_append a n (suc k) =
    let e : n + suc k ≡ suc (n + k) = omega arith in
    rw (e, clear_append a n k) (or_assoc (some_clear a n) (some_clear (λ i. a (n + i)) k) (not (eqb (a (n + k)) 255)))

-- ---- the flag of bytes
has_alpha_none : (l : PixelLayout) (s : List ℕ) → has_alpha l s 0 ≡ false
unfolding has_alpha some_clear
has_alpha_none l s = refl

module _ (l : PixelLayout) (a b : List ℕ) (n k : ℕ) (long : length a ≡ row_bytes pixel_lanes n) where
  first_alpha : (i : ℕ) → i < n → alpha_at l (a ++ b) i ≡ alpha_at l a i
  first_alpha i u =
      let small = place_lt l alpha_lane (omega arith) in
      get_or-append a b 0 (pixel_lanes * i + place_of l alpha_lane) (omega arith)

  second_alpha : (i : ℕ) → alpha_at l (a ++ b) (n + i) ≡ alpha_at l b i
  second_alpha i =
      let e : pixel_lanes * (n + i) + place_of l alpha_lane ≡ length a + (pixel_lanes * i + place_of l alpha_lane) = omega arith in
      ap (λ (z : ℕ). get_or (a ++ b) z 0) e ∙ get_or-append-add a b (pixel_lanes * i + place_of l alpha_lane) 0

  has_alpha_append : has_alpha l (a ++ b) (n + k) ≡ (has_alpha l a n || has_alpha l b k)
  unfolding has_alpha
  has_alpha_append =
      clear_append (alpha_at l (a ++ b)) n k
      ∙ ap₂ ◌||◌
      (clear_cong (alpha_at l (a ++ b)) (alpha_at l a) n first_alpha)
      (clear_cong (λ i. alpha_at l (a ++ b) (n + i)) (alpha_at l b) k (λ i u. second_alpha i))

-- ---- rows joined in order
pub joined_append : (rows : List (List ℕ)) (row : List ℕ) → joined (rows ++ (row ∷ [])) ≡ joined rows ++ row
unfolding joined
joined_append [] row = append-nil row
joined_append (first ∷ rows) row = rw (joined_append rows row) (sym (append_assoc first (joined rows) row))

pub joined_length : (m : ℕ) (rows : List (List ℕ)) → ((y : ℕ) → y < length rows → length (get_or rows y []) ≡ m) → length (joined rows) ≡ m * length rows
unfolding joined
joined_length m [] same = omega arith
joined_length m (row ∷ rows) same =
    omega (arith, length-append row (joined rows), same 0 (omega arith), joined_length m rows (λ y l. same (suc y) (omega arith)))

-- ---- the flag of either form: a plane's stays false
pub flag_none : (form : RowForm) (s : List ℕ) → flag_in form s 0 ≡ false
flag_none (Pixels layout) s = has_alpha_none layout s
flag_none (Plain lanes) s = refl

-- with one more row of m pixels
pub flag_append : (form : RowForm) (before row : List ℕ) (m t : ℕ) → length before ≡ row_bytes (lanes_in form) m * t
    → flag_in form (before ++ row) (m * suc t) ≡ (flag_in form before (m * t) || flag_in form row m)
flag_append (Pixels layout) before row m t long =
    let e : m * suc t ≡ m * t + m = omega arith in
    rw e (has_alpha_append layout before row (m * t) m (omega arith))
flag_append (Plain lanes) before row m t long = refl

pub joined_flag : (form : RowForm) (rows : List (List ℕ)) (row : List ℕ) (m t : ℕ) → length (joined rows) ≡ row_bytes (lanes_in form) m * t
    → flag_in form (joined (rows ++ (row ∷ []))) (m * suc t) ≡ (flag_in form (joined rows) (m * t) || flag_in form row m)
joined_flag form rows row m t long = rw joined_append (flag_append form (joined rows) row m t long)
