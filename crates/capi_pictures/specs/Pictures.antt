-- What the calls beside the job tell and leave in every lent buffer, of their arguments in C's order; of a buffer that is only measured the argument is its
-- length. A number other than 0 leaves every buffer as it was. Assumes nothing.
use Rattle.std.specs.Prelude.{ℕ, ◌*◌, not, ◌||◌, List, ltb, length}
use Rattle.pixels.specs.Refusals.{buffer_if}
use Rattle.pixels.specs.Sizes.{size_of, rect_of, scaled_number, scaled_size}
use Rattle.pixels_alpha.specs.Alpha.{has_alpha, picture_number, with_alpha, alpha_number}
use Rattle.pixels_badge.specs.Badge.{laid, badge_number}
use Rattle.pixels_crop.specs.Crop.{cropped, crop_number}
use Rattle.job_claim.specs.Rows.{resized, resized_flag}
use Rattle.job_resize.specs.Resize.{resize_number, resized_work}
use Rattle.capi_words.specs.Words.{word_layout, is_layout}
use Rattle.capi_words.specs.Boundary.{boundary_first, misused, stored_flag, stored_size}

-- the boundary's number of a call that takes a layout word and answers by a flag in one lent word, then the library's number n
abbrev pub flag_first : ℕ → ℕ → ℕ → ℕ
flag_first layout flag n = boundary_first (misused layout flag 1) n

-- ---- jonquilsaw_has_alpha: a picture w by h, a layout word, its pixels, one word for the flag
unfoldable pub number_of_has_alpha : ℕ → ℕ → ℕ → ℕ → ℕ → ℕ
number_of_has_alpha w h layout pixels flag = flag_first layout flag (picture_number (size_of w h) pixels)

-- the picture's flag in the first word
unfoldable pub flag_after_has_alpha : ℕ → ℕ → ℕ → List ℕ → List ℕ → List ℕ
flag_after_has_alpha w h layout pixels flag =
    buffer_if (number_of_has_alpha w h layout (length pixels) (length flag)) (stored_flag (has_alpha (word_layout layout) pixels (w * h)) flag) flag

-- ---- jonquilsaw_crop: source sw by sh, a layout word, the crop at x, y of cw by ch, pixels, the output, one word for the flag
unfoldable pub number_of_crop : ℕ → ℕ → ℕ → ℕ → ℕ → ℕ → ℕ → ℕ → ℕ → ℕ → ℕ
number_of_crop sw sh layout x y cw ch pixels out flag = flag_first layout flag (crop_number (size_of sw sh) (rect_of x y cw ch) pixels out)

-- the crop's rows
unfoldable pub out_after_crop : ℕ → ℕ → ℕ → ℕ → ℕ → ℕ → ℕ → List ℕ → List ℕ → ℕ → List ℕ
out_after_crop sw sh layout x y cw ch pixels out flag =
    buffer_if (number_of_crop sw sh layout x y cw ch (length pixels) (length out) flag) (cropped (size_of sw sh) (rect_of x y cw ch) pixels) out

-- the flag of the crop in the first word
unfoldable pub flag_after_crop : ℕ → ℕ → ℕ → ℕ → ℕ → ℕ → ℕ → List ℕ → ℕ → List ℕ → List ℕ
flag_after_crop sw sh layout x y cw ch pixels out flag =
    buffer_if (number_of_crop sw sh layout x y cw ch (length pixels) out (length flag))
    (stored_flag (has_alpha (word_layout layout) (cropped (size_of sw sh) (rect_of x y cw ch) pixels) (cw * ch)) flag)
    flag

-- ---- jonquilsaw_resize: source sw by sh, a layout word, target tw by th, pixels, the output, work values, one word for the flag
unfoldable pub number_of_resize : ℕ → ℕ → ℕ → ℕ → ℕ → ℕ → ℕ → ℕ → ℕ → ℕ
number_of_resize sw sh layout tw th pixels out work flag = flag_first layout flag (resize_number (size_of sw sh) (size_of tw th) pixels out work)

-- the picture scaled
unfoldable pub out_after_resize : ℕ → ℕ → ℕ → ℕ → ℕ → List ℕ → List ℕ → ℕ → ℕ → List ℕ
out_after_resize sw sh layout tw th pixels out work flag =
    buffer_if (number_of_resize sw sh layout tw th (length pixels) (length out) work flag) (resized (size_of sw sh) (word_layout layout) (size_of tw th) pixels) out

-- what scaling it leaves in the work values
unfoldable pub work_after_resize : ℕ → ℕ → ℕ → ℕ → ℕ → List ℕ → ℕ → List ℕ → ℕ → List ℕ
work_after_resize sw sh layout tw th pixels out work flag =
    buffer_if (number_of_resize sw sh layout tw th (length pixels) out (length work) flag)
    (resized_work (size_of sw sh) (word_layout layout) (size_of tw th) pixels work)
    work

-- the flag of the picture scaled in the first word
unfoldable pub flag_after_resize : ℕ → ℕ → ℕ → ℕ → ℕ → List ℕ → ℕ → ℕ → List ℕ → List ℕ
flag_after_resize sw sh layout tw th pixels out work flag =
    buffer_if (number_of_resize sw sh layout tw th (length pixels) out work (length flag))
    (stored_flag (resized_flag (size_of sw sh) (word_layout layout) (size_of tw th) pixels) flag)
    flag

-- ---- jonquilsaw_apply_alpha_plane: a picture w by h, a layout word, its pixels, the plane, one word for the flag
unfoldable pub number_of_plane : ℕ → ℕ → ℕ → ℕ → ℕ → ℕ → ℕ
number_of_plane w h layout pixels plane flag = flag_first layout flag (alpha_number (size_of w h) pixels plane)

-- the plane's bytes as the picture's alphas
unfoldable pub pixels_after_plane : ℕ → ℕ → ℕ → List ℕ → List ℕ → ℕ → List ℕ
pixels_after_plane w h layout pixels plane flag =
    buffer_if (number_of_plane w h layout (length pixels) (length plane) flag) (with_alpha (word_layout layout) pixels plane) pixels

-- the flag of the picture so made in the first word
unfoldable pub flag_after_plane : ℕ → ℕ → ℕ → List ℕ → List ℕ → List ℕ → List ℕ
flag_after_plane w h layout pixels plane flag =
    buffer_if (number_of_plane w h layout (length pixels) (length plane) (length flag))
    (stored_flag (has_alpha (word_layout layout) (with_alpha (word_layout layout) pixels plane) (w * h)) flag)
    flag

-- ---- jonquilsaw_badge_lay: a background w by h, its layout word and its pixels, a badge bw by bh, its layout word and its pixels
unfoldable pub number_of_badge : ℕ → ℕ → ℕ → List ℕ → ℕ → ℕ → ℕ → ℕ → ℕ
number_of_badge w h layout pixels bw bh from badge =
    boundary_first (not (is_layout layout) || not (is_layout from)) (badge_number (size_of w h) (word_layout layout) pixels (size_of bw bh) badge)

-- the badge laid on the background
unfoldable pub pixels_after_badge : ℕ → ℕ → ℕ → List ℕ → ℕ → ℕ → ℕ → List ℕ → List ℕ
pixels_after_badge w h layout pixels bw bh from badge =
    buffer_if (number_of_badge w h layout pixels bw bh from (length badge)) (laid (word_layout layout) pixels (word_layout from) badge) pixels

-- ---- jonquilsaw_scaled: a picture w by h, a target tw by th, two words for the size
unfoldable pub number_of_scaled : ℕ → ℕ → ℕ → ℕ → ℕ → ℕ
number_of_scaled w h tw th size = boundary_first (ltb size 2) (scaled_number (size_of w h) tw th)

-- width and height in the first two words
unfoldable pub size_after_scaled : ℕ → ℕ → ℕ → ℕ → List ℕ → List ℕ
size_after_scaled w h tw th size = buffer_if (number_of_scaled w h tw th (length size)) (stored_size (scaled_size (size_of w h) tw th) size) size
