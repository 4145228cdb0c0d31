-- The starred trials of SCOPE, "Trials", as one table: what the definitions give beside what the document says. The definitions are those
-- that the contracts of resize, mult_argb, scaled and rows_by cite. The table is there for every layout. proofs/Trials.antt proves all rows together,
-- proofs/AnyPixel.antt the two that speak of an opaque pixel for every such pixel. Assumes nothing.
use Rattle.std.specs.Prelude.{ℕ, ◌<◌, Bool, true, false, cond, List, [], ◌∷◌, ◌++◌, ◌≡◌}
use Rattle.arithmetic.specs.Table.{tabulate}
use Rattle.arithmetic.specs.Matte.{mult_argb}
use Rattle.pixels.specs.declared.Dimensions.{Dimensions}
use Rattle.pixels_layout.specs.declared.PixelLayout.{PixelLayout}
use Rattle.pixels_layout.specs.declared.PixelLayout.TheVariants.{Rgba8, Argb8, Bgra8}
use Rattle.pixels.specs.Sizes.{size_of, scaled_number, scaled_size}
use Rattle.rows_schedule.specs.Schedule.{rows_by}
use Rattle.job_claim.specs.Rows.{resized, resized_flag}

-- one row of the table
pub record Trial : Type 0 where
  pub given : List ℕ
  pub said : List ℕ

abbrev trial : List ℕ → List ℕ → Trial
trial given said = record { given = given; said = said }

-- the two columns
unfoldable pub given_of : List Trial → List (List ℕ)
given_of [] = []
given_of (t ∷ ts) = t.given ∷ given_of ts

unfoldable pub said_of : List Trial → List (List ℕ)
said_of [] = []
said_of (t ∷ ts) = t.said ∷ said_of ts

-- the bytes of a pixel
unfoldable pub pixel : PixelLayout → ℕ → ℕ → ℕ → ℕ → List ℕ
pixel Rgba8 a r g b = r ∷ g ∷ b ∷ a ∷ []
pixel Argb8 a r g b = a ∷ r ∷ g ∷ b ∷ []
pixel Bgra8 a r g b = b ∷ g ∷ r ∷ a ∷ []

-- the bytes of opaque pixels, all three colours of each being v
unfoldable pub opaque : PixelLayout → List ℕ → List ℕ
opaque layout [] = []
opaque layout (v ∷ vs) = pixel layout 255 v v v ++ opaque layout vs

-- 1 for true
abbrev bit : Bool → ℕ
bit b = cond b 1 0

-- the table, of pictures in layout l
unfoldable pub trials : PixelLayout → List Trial
trials l =
    -- "2 by 1 to 1 by 1, opaque, lanes 10, 20: 15"
    trial (resized (size_of 2 1) l (size_of 1 1) (opaque l (10 ∷ 20 ∷ []))) (opaque l (15 ∷ []))
    -- "10, 21: 16"
    ∷ trial (resized (size_of 2 1) l (size_of 1 1) (opaque l (10 ∷ 21 ∷ []))) (opaque l (16 ∷ []))
    -- "10, 21 to 3 wide: 10, 16, 21"
    ∷ trial (resized (size_of 2 1) l (size_of 3 1) (opaque l (10 ∷ 21 ∷ []))) (opaque l (10 ∷ 16 ∷ 21 ∷ []))
    -- "10, 21, 30 to 2 wide: 14, 27"
    ∷ trial (resized (size_of 3 1) l (size_of 2 1) (opaque l (10 ∷ 21 ∷ 30 ∷ []))) (opaque l (14 ∷ 27 ∷ []))
    -- "1 by 6 all 255, to 1 by 5: last pixel has alpha 254, colours 255; the others 255"
    ∷ trial
    (resized (size_of 1 6) l (size_of 1 5) (opaque l (255 ∷ 255 ∷ 255 ∷ 255 ∷ 255 ∷ 255 ∷ [])))
    (opaque l (255 ∷ 255 ∷ 255 ∷ 255 ∷ []) ++ pixel l 254 255 255 255)
    -- its flag is true, though the source is opaque ("Traps")
    ∷ trial
    (bit (resized_flag (size_of 1 6) l (size_of 1 5) (opaque l (255 ∷ 255 ∷ 255 ∷ 255 ∷ 255 ∷ 255 ∷ []))) ∷ [])
    (1 ∷ [])
    -- equal sizes under alpha are no copy ("Traps")
    ∷ trial (resized (size_of 1 1) l (size_of 1 1) (pixel l 128 200 200 200)) (pixel l 128 199 199 199)
    -- "Opaque 1 by 1 to 1 by 2: the pixel twice"
    ∷ trial (resized (size_of 1 1) l (size_of 1 2) (pixel l 255 10 20 30)) (pixel l 255 10 20 30 ++ pixel l 255 10 20 30)
    -- "Colour 200, alpha 128 to 1 by 2: 199, 128 twice"
    ∷ trial (resized (size_of 1 1) l (size_of 1 2) (pixel l 128 200 200 200)) (pixel l 128 199 199 199 ++ pixel l 128 199 199 199)
    -- "1 by 2, opaque, lanes 10, 21, to 1 by 3: 10, 16, 21"
    ∷ trial (resized (size_of 1 2) l (size_of 1 3) (opaque l (10 ∷ 21 ∷ []))) (opaque l (10 ∷ 16 ∷ 21 ∷ []))
    -- "Opaque 1 by 1 to 2 by 1: the pixel twice"
    ∷ trial (resized (size_of 1 1) l (size_of 2 1) (pixel l 255 10 20 30)) (pixel l 255 10 20 30 ++ pixel l 255 10 20 30)
    -- "Colour 200, alpha 128: matted 100, restored 199"
    ∷ trial (mult_argb 0x80C8C8C8 false ∷ []) (0x80646464 ∷ [])
    ∷ trial (mult_argb 0x80646464 true ∷ []) (0x80C7C7C7 ∷ [])
    -- "Restore 01000002: 010000FF"
    ∷ trial (mult_argb 0x01000002 true ∷ []) (0x010000FF ∷ [])
    -- "h 6, g 4, R for 0 to 6: 0 0 1 2 2 3 4"
    ∷ trial (tabulate (rows_by 0 6 4) 7) (0 ∷ 0 ∷ 1 ∷ 2 ∷ 2 ∷ 3 ∷ 4 ∷ [])
    -- "h 3, g 5: 0 1 3 5"
    ∷ trial (tabulate (rows_by 0 3 5) 4) (0 ∷ 1 ∷ 3 ∷ 5 ∷ [])
    -- "3 by 2 scaled (0,1): 2 by 1"; 0 is the number of an answer that is no refusal
    ∷ trial
    (scaled_number (size_of 3 2) 0 1 ∷ (scaled_size (size_of 3 2) 0 1).width ∷ (scaled_size (size_of 3 2) 0 1).height ∷ [])
    (0 ∷ 2 ∷ 1 ∷ [])
    ∷ []

-- what is proved: the two columns are the same
abbrev pub AllHold : Type 0
AllHold = (l : PixelLayout) → given_of (trials l) ≡ said_of (trials l)

-- ---- "the pixel twice" in the target, whatever its layout and its colours are: proved of 1 by 2 and 2 by 1
abbrev pub PixelTwice : Dimensions → Type 0
PixelTwice target = (l : PixelLayout) (r g b : ℕ) → r < 256 → g < 256 → b < 256
    → resized (size_of 1 1) l target (pixel l 255 r g b) ≡ pixel l 255 r g b ++ pixel l 255 r g b
