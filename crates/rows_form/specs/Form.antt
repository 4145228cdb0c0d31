-- What a row's bytes are, and what the scaler reads and hands out of them (SCOPE, "Lanes" and "Planes"): the pixels of a picture, matted and restored, or the
-- lanes of a plane, "without matting or packing". k counts lanes, i pixels. Assumes nothing.
use Rattle.std.specs.Prelude.{ℕ, ◌+◌, ◌*◌, ◌%◌, Bool, false, List, get_or}
use Rattle.pixels.specs.Sizes.{pixel_lanes}
use Rattle.pixels_layout.specs.Layout.{place_of}
use Rattle.pixels_layout.specs.Lanes.{matted, restored_place}
use Rattle.pixels_alpha.specs.Alpha.{has_alpha}
use Rattle.rows_form.specs.declared.RowForm.{RowForm}
use Rattle.rows_form.specs.declared.RowForm.TheVariants.{Pixels, Plain}

-- the lanes of a pixel
abbrev pub lanes_in : RowForm → ℕ
lanes_in (Pixels layout) = pixel_lanes
lanes_in (Plain lanes) = lanes

-- where lane k stands among a pixel's bytes
abbrev pub place_in : RowForm → ℕ → ℕ
place_in (Pixels layout) k = place_of layout k
place_in (Plain lanes) k = k

-- lane k of pixel i of a plane's row: byte lanes × i + k, as it is. A byte is its own remainder by 256, so that a number that is no byte counts as one.
unfoldable pub plain : ℕ → List ℕ → ℕ → ℕ → ℕ
plain lanes s k i = get_or s (lanes * i + k) 0 % 256

-- what the scaler reads: lane k of pixel i of the row s
abbrev pub lane_in : RowForm → List ℕ → ℕ → ℕ → ℕ
lane_in (Pixels layout) s = matted layout s
lane_in (Plain lanes) s = plain lanes s

-- what is handed out of the scaled lanes v, pixel after pixel: byte x of the row
abbrev pub place_out : RowForm → (ℕ → ℕ) → ℕ → ℕ
place_out (Pixels layout) v = restored_place layout v
place_out (Plain lanes) v = v

-- the alpha flag of a row of w pixels; a plane has no alpha, "its flag false"
abbrev pub flag_in : RowForm → List ℕ → ℕ → Bool
flag_in (Pixels layout) row w = has_alpha layout row w
flag_in (Plain lanes) row w = false
