-- What the calls that answer by a flag come to, as their contracts state it: t is the boundary's test, l the layout that the word names, and what the library
-- answered is said of l. Assumes nothing.
use Rattle.pixels.specs.declared.Refusal.{Refusal}
use Rattle.std.specs.Prelude.{Result}
use Prim.Native.Nat.{ℕ, ◌*◌}
use mathlib.Core.Path.{◌≡◌}
use mathlib.Core.Bool.{Bool, true, false}
use mathlib.Core.List.{List}
use lib.ListN.{length}
use Rattle.pixels_layout.specs.declared.PixelLayout.{PixelLayout}
use Rattle.pixels.specs.Refusals.{buffer_if, flag_if, answer_number, flagged_flag}
use Rattle.pixels.specs.Sizes.{size_of, rect_of}
use Rattle.pixels_alpha.specs.Alpha.{has_alpha, picture_number, with_alpha, alpha_number}
use Rattle.pixels_crop.specs.Crop.{cropped, crop_number}
use Rattle.job_claim.specs.Rows.{resized, resized_flag}
use Rattle.job_resize.specs.Resize.{resize_number, resized_work}
use Rattle.capi_words.specs.Words.{word_layout}
use Rattle.capi_words.specs.Boundary.{boundary, misused, stored_flag}
use Rattle.capi_words.proofs.Boundary.{misuse_told, misuse_kept, passed, buffer_told}
use Rattle.capi_pictures.specs.Pictures.{number_of_has_alpha, flag_after_has_alpha, number_of_crop, out_after_crop, flag_after_crop, number_of_resize, out_after_resize, work_after_resize, flag_after_resize, number_of_plane, pixels_after_plane, flag_after_plane}
use Rattle.capi_pictures.proofs.Answers.{flag_number, flag_told}

-- what store_flag made of an answer: the number r, and the lent word
abbrev pub Stored : Result Bool Refusal → ℕ → List ℕ → List ℕ → Type 0
Stored answer r flag' flag = (r ≡ answer_number answer) × (flag' ≡ buffer_if (answer_number answer) (stored_flag (flagged_flag answer) flag) flag)

-- ---- jonquilsaw_has_alpha
module _ (w h layout : ℕ) (pixels flag : List ℕ) {t : Bool} (e : t ≡ misused layout (length flag) 1) where
  abbrev pub HasAlpha : ℕ → List ℕ → Type 0
  HasAlpha r flag' = (r ≡ number_of_has_alpha w h layout (length pixels) (length flag)) × (flag' ≡ flag_after_has_alpha w h layout pixels flag)

  pub has_alpha_misused : t ≡ true → HasAlpha boundary flag
  unfolding number_of_has_alpha flag_after_has_alpha
  has_alpha_misused f = (misuse_told _ e f, misuse_kept _ e f _ flag)

  module _ (f : t ≡ false) (l : PixelLayout) (is : l ≡ word_layout layout) (answer : Result Bool Refusal) (m : answer_number answer ≡ picture_number (size_of w h) (length pixels)) where
    pub has_alpha_told : flagged_flag answer ≡ flag_if (picture_number (size_of w h) (length pixels)) (has_alpha l pixels (w * h))
        → (r : ℕ) (flag' : List ℕ) → Stored answer r flag' flag → HasAlpha r flag'
    unfolding number_of_has_alpha flag_after_has_alpha
    has_alpha_told g r flag' s = (flag_number _ e f answer m r s.0, flag_told _ e f answer m _ flag' flag (rw is at g) s.1)

-- ---- jonquilsaw_crop
module _ (sw sh layout x y cw ch : ℕ) (pixels out flag : List ℕ) {t : Bool} (e : t ≡ misused layout (length flag) 1) where
  abbrev pub Crop : ℕ → List ℕ → List ℕ → Type 0
  Crop r out' flag' =
      (r ≡ number_of_crop sw sh layout x y cw ch (length pixels) (length out) (length flag))
      × ((out' ≡ out_after_crop sw sh layout x y cw ch pixels out (length flag)) × (flag' ≡ flag_after_crop sw sh layout x y cw ch pixels (length out) flag))

  pub crop_misused : t ≡ true → Crop boundary out flag
  unfolding number_of_crop out_after_crop flag_after_crop
  crop_misused f = (misuse_told _ e f, (misuse_kept _ e f _ out, misuse_kept _ e f _ flag))

  abbrev pub the_crop : List ℕ
  the_crop = cropped (size_of sw sh) (rect_of x y cw ch) pixels

  module _ (f : t ≡ false) (l : PixelLayout) (is : l ≡ word_layout layout) (answer : Result Bool Refusal)
      (m : answer_number answer ≡ crop_number (size_of sw sh) (rect_of x y cw ch) (length pixels) (length out)) where
    pub crop_told : flagged_flag answer ≡ flag_if (crop_number (size_of sw sh) (rect_of x y cw ch) (length pixels) (length out)) (has_alpha l the_crop (cw * ch))
        → (out' : List ℕ) → out' ≡ buffer_if (crop_number (size_of sw sh) (rect_of x y cw ch) (length pixels) (length out)) the_crop out
        → (r : ℕ) (flag' : List ℕ) → Stored answer r flag' flag → Crop r out' flag'
    unfolding number_of_crop out_after_crop flag_after_crop
    crop_told g out' o r flag' s =
        (flag_number _ e f answer m r s.0, (buffer_told _ _ out' _ out (passed _ e f) o, flag_told _ e f answer m _ flag' flag (rw is at g) s.1))

-- ---- jonquilsaw_resize
module _ (sw sh layout tw th : ℕ) (pixels out work flag : List ℕ) {t : Bool} (e : t ≡ misused layout (length flag) 1) where
  abbrev pub Resize : ℕ → List ℕ → List ℕ → List ℕ → Type 0
  Resize r out' work' flag' =
      (r ≡ number_of_resize sw sh layout tw th (length pixels) (length out) (length work) (length flag))
      × ((out' ≡ out_after_resize sw sh layout tw th pixels out (length work) (length flag))
      × ((work' ≡ work_after_resize sw sh layout tw th pixels (length out) work (length flag))
      × (flag' ≡ flag_after_resize sw sh layout tw th pixels (length out) (length work) flag)))

  pub resize_misused : t ≡ true → Resize boundary out work flag
  unfolding number_of_resize out_after_resize work_after_resize flag_after_resize
  resize_misused f = (misuse_told _ e f, (misuse_kept _ e f _ out, (misuse_kept _ e f _ work, misuse_kept _ e f _ flag)))

  abbrev pub theirs : ℕ
  theirs = resize_number (size_of sw sh) (size_of tw th) (length pixels) (length out) (length work)

  module _ (f : t ≡ false) (l : PixelLayout) (is : l ≡ word_layout layout) (answer : Result Bool Refusal) (m : answer_number answer ≡ theirs) where
    pub resize_told : flagged_flag answer ≡ flag_if theirs (resized_flag (size_of sw sh) l (size_of tw th) pixels)
        → (out' work' : List ℕ) → out' ≡ buffer_if theirs (resized (size_of sw sh) l (size_of tw th) pixels) out
        → work' ≡ buffer_if theirs (resized_work (size_of sw sh) l (size_of tw th) pixels work) work
        → (r : ℕ) (flag' : List ℕ) → Stored answer r flag' flag → Resize r out' work' flag'
    unfolding number_of_resize out_after_resize work_after_resize flag_after_resize
    resize_told g out' work' o w r flag' s =
        let p = passed theirs e f in
        (flag_number _ e f answer m r s.0, (buffer_told _ _ out' _ out p (rw is at o), (buffer_told _ _ work' _ work p (rw is at w), flag_told _ e f answer m _ flag' flag (rw is at g) s.1)))

-- ---- jonquilsaw_apply_alpha_plane
module _ (w h layout : ℕ) (pixels plane flag : List ℕ) {t : Bool} (e : t ≡ misused layout (length flag) 1) where
  abbrev pub Plane : ℕ → List ℕ → List ℕ → Type 0
  Plane r pixels' flag' =
      (r ≡ number_of_plane w h layout (length pixels) (length plane) (length flag))
      × ((pixels' ≡ pixels_after_plane w h layout pixels plane (length flag)) × (flag' ≡ flag_after_plane w h layout pixels plane flag))

  pub plane_misused : t ≡ true → Plane boundary pixels flag
  unfolding number_of_plane pixels_after_plane flag_after_plane
  plane_misused f = (misuse_told _ e f, (misuse_kept _ e f _ pixels, misuse_kept _ e f _ flag))

  module _ (f : t ≡ false) (l : PixelLayout) (is : l ≡ word_layout layout) (answer : Result Bool Refusal)
      (m : answer_number answer ≡ alpha_number (size_of w h) (length pixels) (length plane)) where
    pub plane_told : flagged_flag answer ≡ flag_if (alpha_number (size_of w h) (length pixels) (length plane)) (has_alpha l (with_alpha l pixels plane) (w * h))
        → (pixels' : List ℕ) → pixels' ≡ buffer_if (alpha_number (size_of w h) (length pixels) (length plane)) (with_alpha l pixels plane) pixels
        → (r : ℕ) (flag' : List ℕ) → Stored answer r flag' flag → Plane r pixels' flag'
    unfolding number_of_plane pixels_after_plane flag_after_plane
    plane_told g pixels' o r flag' s =
        (flag_number _ e f answer m r s.0, (buffer_told _ _ pixels' _ pixels (passed _ e f) (rw is at o), flag_told _ e f answer m _ flag' flag (rw is at g) s.1))
