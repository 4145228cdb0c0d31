-- Why a call is turned away: SCOPE's table, the number of each cause, and the number and the values of each answer. Assumes nothing.
use Rattle.std.specs.Prelude.{ℕ, Bool, false, cond, not, List, [], ◌∷◌, eqb, ltb, Result, Ok, Err}
use Rattle.pixels.specs.declared.Dimensions.{Dimensions}
use Rattle.pixels.specs.declared.Refusal.{Refusal}
use Rattle.pixels.specs.declared.Refusal.TheVariants.{InvalidDimensions, CropOutOfBounds, PixelBufferMismatch, OutputLength, WorkLength, InvalidRecord, RowReady, AllAccepted, NoneReady, InvalidLanes, PamMalformed, PamUnsupported, InvalidGroup, GroupTooLarge, UnequalSizes, BackgroundNotOpaque, InvalidBand}

-- the column "No." of the table
abbrev pub number : Refusal → ℕ
number InvalidDimensions = 1
number CropOutOfBounds = 2
number PixelBufferMismatch = 3
number OutputLength = 4
number WorkLength = 5
number InvalidRecord = 6
number RowReady = 7
number AllAccepted = 8
number NoneReady = 9
number InvalidLanes = 10
number PamMalformed = 11
number PamUnsupported = 12
number InvalidGroup = 13
number GroupTooLarge = 14
number UnequalSizes = 15
number BackgroundNotOpaque = 16
number InvalidBand = 17

-- ---- causes in their order

-- a cause of the table, and whether it applies
pub record Cause : Type 0 where
  pub applies : Bool
  pub why : Refusal

abbrev pub cause : Bool → Refusal → Cause
cause applies why = record { applies = applies; why = why }

-- the number of the first that applies, 0 where none does
abbrev pub first : List Cause → ℕ
first [] = 0
first (c ∷ cs) = cond c.applies (number c.why) (first cs)

-- a length other than the one asked for
abbrev pub other_length : ℕ → ℕ → Refusal → Cause
other_length n asked why = cause (not (eqb n asked)) why

-- fewer work values than are needed
abbrev pub few_work : ℕ → ℕ → Cause
few_work n needed = cause (ltb n needed) WorkLength

-- ---- answers: the number is 0 where the call was accepted
abbrev pub answer_number : {T : Type 0} → Result T Refusal → ℕ
answer_number (Ok x) = 0
answer_number (Err why) = number why

-- what an answer has, or what stands for it where the call was refused
abbrev pub value_or : {T : Type 0} → T → Result T Refusal → T
value_or other (Ok x) = x
value_or other (Err why) = other

-- what a refusal has in place of a size
abbrev pub no_size : Dimensions
no_size = record { width = 0; height = 0 }

abbrev pub sized_size : Result Dimensions Refusal → Dimensions
sized_size (Ok size) = size
sized_size (Err why) = no_size

-- the size of an answer with the number n
abbrev pub size_if : ℕ → Dimensions → Dimensions
size_if n size = cond (eqb n 0) size no_size

-- a refusal has no flag: false
abbrev pub flagged_flag : Result Bool Refusal → Bool
flagged_flag (Ok flag) = flag
flagged_flag (Err why) = false

-- the flag of an answer with the number n
abbrev pub flag_if : ℕ → Bool → Bool
flag_if n flag = cond (eqb n 0) flag false

-- a buffer after a call with the number n: what was written, or as it was
abbrev pub buffer_if : ℕ → List ℕ → List ℕ → List ℕ
buffer_if n written kept = cond (eqb n 0) written kept
