-- What a PAM header says: its lines, the numbers 11, 12 and 1, the size, and where the pixels begin. Assumes nothing.
use Rattle.std.specs.Prelude.{ℕ, ◌+◌, Bool, true, false, not, cond, ◌&&◌, ◌||◌, List, [], ◌∷◌, ◌++◌, eqb, length, Option, Some, None, Result, Ok, Err}
use Rattle.pixels.specs.declared.Dimensions.{Dimensions}
use Rattle.pixels.specs.declared.Refusal.{Refusal}
use Rattle.pixels.specs.declared.Refusal.TheVariants.{PamMalformed, PamUnsupported}
use Rattle.pixels.specs.Refusals.{number, Cause, cause, first, no_size, size_if}
use Rattle.pixels.specs.Sizes.{size_of, wrong_size}
use Rattle.pam_text.specs.Text.{same_text}
use Rattle.pam_line.specs.declared.Key.{Key}
use Rattle.pam_line.specs.declared.Key.TheVariants.{Width, Height, Depth, Maxval}
use Rattle.pam_line.specs.declared.Said.{Said}
use Rattle.pam_line.specs.declared.Said.TheVariants as said
use Rattle.pam_line.specs.Line.{text_p7, says}
use Rattle.pam_header.specs.declared.PamPicture.{PamPicture}

-- ---- lines

-- "Header lines end in byte 10": what stands before each. Bytes after the last byte 10 are no line. What is held of a line so far goes along
unfoldable pub lines_from : List ℕ → List ℕ → List (List ℕ)
lines_from held [] = []
lines_from held (b ∷ s) = cond (eqb b 10) (held ∷ lines_from [] s) (lines_from (held ++ (b ∷ [])) s)

abbrev pub lines : List ℕ → List (List ℕ)
lines s = lines_from [] s

-- "the first just P7"
abbrev pub opens : List (List ℕ) → Bool
opens [] = false
opens (l ∷ ls) = same_text l text_p7

-- "the others"
abbrev pub others : List (List ℕ) → List (List ℕ)
others [] = []
others (l ∷ ls) = ls

-- ---- the end

abbrev pub is_end : Said → Bool
is_end said.Nothing = false
is_end (said.Number key v) = false
is_end said.RgbAlpha = false
is_end said.OtherType = false
is_end said.End = true
is_end said.Outside = false

-- some line is the end
unfoldable pub ends : List (List ℕ) → Bool
ends [] = false
ends (l ∷ ls) = is_end (says l) || ends ls

-- the lines before the first that is
unfoldable pub before_end : List (List ℕ) → List (List ℕ)
before_end [] = []
before_end (l ∷ ls) = cond (is_end (says l)) [] (l ∷ before_end ls)

-- the bytes of the lines up to the first that is the end, that one and every byte 10 with them
unfoldable pub end_bytes : List (List ℕ) → ℕ
end_bytes [] = 0
end_bytes (l ∷ ls) = length l + 1 + cond (is_end (says l)) 0 (end_bytes ls)

-- ---- what lines say together

abbrev pub is_outside : Said → Bool
is_outside said.Nothing = false
is_outside (said.Number key v) = false
is_outside said.RgbAlpha = false
is_outside said.OtherType = false
is_outside said.End = false
is_outside said.Outside = true

-- some line is outside the form
unfoldable pub strays : List (List ℕ) → Bool
strays [] = false
strays (l ∷ ls) = is_outside (says l) || strays ls

-- keys are told apart by a number
abbrev pub place : Key → ℕ
place Width = 0
place Height = 1
place Depth = 2
place Maxval = 3

-- the number that a line gives for a key, if it does
abbrev pub numbers : Key → Said → List ℕ
numbers key said.Nothing = []
numbers key (said.Number other v) = cond (eqb (place key) (place other)) (v ∷ []) []
numbers key said.RgbAlpha = []
numbers key said.OtherType = []
numbers key said.End = []
numbers key said.Outside = []

-- all numbers given for a key
unfoldable pub given : Key → List (List ℕ) → List ℕ
given key [] = []
given key (l ∷ ls) = numbers key (says l) ++ given key ls

-- the tuple type that a line gives, if it does
abbrev pub type_of : Said → List Bool
type_of said.Nothing = []
type_of (said.Number key v) = []
type_of said.RgbAlpha = true ∷ []
type_of said.OtherType = false ∷ []
type_of said.End = []
type_of said.Outside = []

-- all tuple types: true for RGB_ALPHA alone
unfoldable pub types : List (List ℕ) → List Bool
types [] = []
types (l ∷ ls) = type_of (says l) ++ types ls

-- exactly one; at most one; the first
abbrev pub once : List ℕ → Bool
once [] = false
once (v ∷ []) = true
once (v ∷ w ∷ vs) = false

abbrev pub few : List ℕ → Bool
few [] = true
few (v ∷ []) = true
few (v ∷ w ∷ vs) = false

abbrev pub the : List ℕ → ℕ
the [] = 0
the (v ∷ vs) = v

-- one type, RGB_ALPHA: "several TUPLTYPE lines are another type"
abbrev pub rgb_alpha : List Bool → Bool
rgb_alpha [] = false
rgb_alpha (x ∷ []) = x
rgb_alpha (x ∷ y ∷ xs) = false

-- ---- the header: the lines between the first and the end
abbrev pub header : List ℕ → List (List ℕ)
header s = before_end (others (lines s))

abbrev pub number_for : Key → List ℕ → ℕ
number_for key s = the (given key (header s))

-- some key has numbers that are not so
abbrev pub keys_fail : (List ℕ → Bool) → List (List ℕ) → Bool
keys_fail good ls = not (good (given Width ls)) || (not (good (given Height ls)) || (not (good (given Depth ls)) || not (good (given Maxval ls))))

-- 11: another first line, no end, a line outside the form, a size, depth or maximum line missing or given twice
unfoldable pub malformed : List ℕ → Bool
malformed s = not (opens (lines s)) || (not (ends (others (lines s))) || (strays (header s) || keys_fail once (header s)))

-- 12: "another depth or maximum (0 included), or another tuple type or none"
unfoldable pub unsupported : List ℕ → Bool
unsupported s = not (eqb (number_for Depth s) 4) || (not (eqb (number_for Maxval s) 255) || not (rgb_alpha (types (header s))))

abbrev pub size_said : List ℕ → Dimensions
size_said s = size_of (number_for Width s) (number_for Height s)

-- "11 and 12 are ahead of 1"
abbrev pub header_causes : List ℕ → List Cause
header_causes s = cause (malformed s) PamMalformed ∷ cause (unsupported s) PamUnsupported ∷ wrong_size (size_said s) ∷ []

unfoldable pub header_number : List ℕ → ℕ
header_number s = first (header_causes s)

unfoldable pub header_size : List ℕ → Dimensions
header_size s = size_if (header_number s) (size_said s)

abbrev pub first_bytes : List (List ℕ) → ℕ
first_bytes [] = 0
first_bytes (l ∷ ls) = length l + 1

-- the place of the first byte after the header
abbrev pub pixels_from : List ℕ → ℕ
pixels_from s = first_bytes (lines s) + end_bytes (others (lines s))

-- the place of an answer with the number n
abbrev pub start_if : ℕ → ℕ → ℕ
start_if n start = cond (eqb n 0) start 0

unfoldable pub header_start : List ℕ → ℕ
header_start s = start_if (header_number s) (pixels_from s)

-- the beginning of a header: the first line, no end yet, and nothing that is outside the form whatever follows
unfoldable pub header_unfinished : List ℕ → Bool
header_unfinished s =
    opens (lines s) && (not (ends (others (lines s))) && (not (strays (others (lines s))) && not (keys_fail few (others (lines s)))))

-- ---- an answer's number, size and place: a picture, a header that is not finished, which is refused where nothing follows, or a refusal
abbrev pub Answer : Type 0
Answer = Result (Option PamPicture) Refusal

abbrev pub answer_number : Answer → ℕ
answer_number (Ok (Some picture)) = 0
answer_number (Ok None) = number PamMalformed
answer_number (Err why) = number why

abbrev pub answer_size : Answer → Dimensions
answer_size (Ok (Some picture)) = picture.size
answer_size (Ok None) = no_size
answer_size (Err why) = no_size

abbrev pub answer_start : Answer → ℕ
answer_start (Ok (Some picture)) = picture.start
answer_start (Ok None) = 0
answer_start (Err why) = 0

abbrev pub answer_unfinished : Answer → Bool
answer_unfinished (Ok (Some picture)) = false
answer_unfinished (Ok None) = true
answer_unfinished (Err why) = false
