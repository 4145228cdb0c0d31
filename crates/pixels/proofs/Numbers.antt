-- Laws of the numbers of "Why a call is turned away": a number names its cause, none is 0, and an answer is told by its number. Assumes nothing.
use Prim.Native.Nat.{ℕ, ◌<◌}
use mathlib.Core.Path.{◌≡◌, refl, sym, ap, ◌∙◌}
use mathlib.Core.Bool.{Bool, true, false}
use mathlib.Core.List.{List, [], ◌∷◌}
use native.Mathlib.Omega.{arith}
use lib.Dec.{eqb, lit<}
use borrow.Author.Tests.{ne_eqb}
use lib.ListN.{get_or}
use Rattle.std.specs.Prelude.{Result, Ok, Err, is_err, IsOk, ⊤}
use Rattle.pixels.specs.declared.Dimensions.{Dimensions}
use Rattle.pixels.specs.declared.Refusal.{Refusal}
use Rattle.pixels.specs.declared.Refusal.TheVariants.{InvalidDimensions, CropOutOfBounds, PixelBufferMismatch, OutputLength, WorkLength, InvalidRecord, RowReady, AllAccepted, NoneReady, InvalidLanes, PamMalformed, PamUnsupported, InvalidGroup, GroupTooLarge, UnequalSizes, BackgroundNotOpaque, InvalidBand}
use Rattle.pixels.specs.Refusals.{number, answer_number, value_or, no_size, size_if, flag_if, buffer_if}

-- the cause of a number
unfoldable named : ℕ → Refusal
named n =
    get_or (InvalidDimensions ∷ InvalidDimensions ∷ CropOutOfBounds ∷ PixelBufferMismatch ∷ OutputLength ∷ WorkLength ∷ InvalidRecord ∷ RowReady ∷ AllAccepted ∷ NoneReady ∷ InvalidLanes ∷ PamMalformed ∷ PamUnsupported ∷ InvalidGroup ∷ GroupTooLarge ∷ UnequalSizes ∷ BackgroundNotOpaque ∷ InvalidBand ∷ []) n InvalidDimensions

named_number : (why : Refusal) → named (number why) ≡ why
unfolding named
named_number InvalidDimensions = refl
named_number CropOutOfBounds = refl
named_number PixelBufferMismatch = refl
named_number OutputLength = refl
named_number WorkLength = refl
named_number InvalidRecord = refl
named_number RowReady = refl
named_number AllAccepted = refl
named_number NoneReady = refl
named_number InvalidLanes = refl
named_number PamMalformed = refl
named_number PamUnsupported = refl
named_number InvalidGroup = refl
named_number GroupTooLarge = refl
named_number UnequalSizes = refl
named_number BackgroundNotOpaque = refl
named_number InvalidBand = refl

pub number_injective : (a b : Refusal) → number a ≡ number b → a ≡ b
number_injective a b e = sym (named_number a) ∙ ap named e ∙ named_number b

pub number_pos : (why : Refusal) → 0 < number why
number_pos InvalidDimensions = lit< tt
number_pos CropOutOfBounds = lit< tt
number_pos PixelBufferMismatch = lit< tt
number_pos OutputLength = lit< tt
number_pos WorkLength = lit< tt
number_pos InvalidRecord = lit< tt
number_pos RowReady = lit< tt
number_pos AllAccepted = lit< tt
number_pos NoneReady = lit< tt
number_pos InvalidLanes = lit< tt
number_pos PamMalformed = lit< tt
number_pos PamUnsupported = lit< tt
number_pos InvalidGroup = lit< tt
number_pos GroupTooLarge = lit< tt
number_pos UnequalSizes = lit< tt
number_pos BackgroundNotOpaque = lit< tt
number_pos InvalidBand = lit< tt

-- an end in itself: an answer is known by its number, so a contract that tells the number tells the answer
pub checked_is : (a b : Result ⊤ Refusal) → answer_number a ≡ answer_number b → a ≡ b
checked_is (Ok x) (Ok y) e = refl
checked_is (Ok x) (Err why) e = absurd (omega (arith, number_pos why))
checked_is (Err why) (Ok x) e = absurd (omega (arith, number_pos why))
checked_is (Err a) (Err b) e = ap Err (number_injective a b e)

-- an answer that is an error has the number of its cause, and any other 0
pub err_told : {T : Type 0} (r : Result T Refusal) → is_err r ≡ true → (why : Refusal) × (answer_number r ≡ number why)
err_told (Ok x) e = cc
err_told (Err why) e = (why, refl)

pub ok_told : {T : Type 0} (r : Result T Refusal) → is_err r ≡ false → answer_number r ≡ 0
ok_told (Ok x) e = refl
ok_told (Err why) e = cc

pub ok_of : {T : Type 0} (r : Result T Refusal) → answer_number r ≡ 0 → IsOk r
ok_of (Ok x) e = refl
ok_of (Err why) e = absurd (omega (arith, number_pos why))

pub value_of : {T : Type 0} (other : T) (r : Result T Refusal) {x : T} → r ≡ Ok x → value_or other r ≡ other → x ≡ other
value_of other r e h = rw e at h

-- ---- number and values of an answer, told by what was called
pub not_zero : (why : Refusal) (n : ℕ) → n ≡ number why → eqb n 0 ≡ false
not_zero why n e = ne_eqb n 0 (λ z. omega (arith, number_pos why))

pub sized_refused : (why : Refusal) (n : ℕ) (d : Dimensions) → n ≡ number why → (number why ≡ n) × (no_size ≡ size_if n d)
sized_refused why n d e = (sym e, simp (not_zero why n e))

pub sized_accepted : (n : ℕ) (d : Dimensions) → n ≡ 0 → (0 ≡ n) × (d ≡ size_if n d)
sized_accepted n d e = (sym e, simp e)

pub flagged_refused : (why : Refusal) (n : ℕ) (b : Bool) → n ≡ number why → (number why ≡ n) × (false ≡ flag_if n b)
flagged_refused why n b e = (sym e, simp (not_zero why n e))

pub flagged_accepted : (n : ℕ) {flag : Bool} (b : Bool) → n ≡ 0 → flag ≡ b → (0 ≡ n) × (flag ≡ flag_if n b)
flagged_accepted n b e f = (sym e, simp e f)

pub buffer_refused : (why : Refusal) (n : ℕ) (w k : List ℕ) → n ≡ number why → (number why ≡ n) × (k ≡ buffer_if n w k)
buffer_refused why n w k e = (sym e, simp (not_zero why n e))

pub buffer_written : (n : ℕ) {out : List ℕ} (w k : List ℕ) → n ≡ 0 → out ≡ w → (0 ≡ n) × (out ≡ buffer_if n w k)
buffer_written n w k e f = (sym e, simp e f)

-- number, flag and buffer
pub all_refused : (why : Refusal) (n : ℕ) (b : Bool) (w k : List ℕ) → n ≡ number why → (number why ≡ n) × ((false ≡ flag_if n b) × (k ≡ buffer_if n w k))
all_refused why n b w k e = (sym e, (simp (not_zero why n e), simp (not_zero why n e)))

pub all_written : (n : ℕ) {flag : Bool} {out : List ℕ} (b : Bool) (w k : List ℕ) → n ≡ 0 → flag ≡ b → out ≡ w → (0 ≡ n) × ((flag ≡ flag_if n b) × (out ≡ buffer_if n w k))
all_written n b w k e f g = (sym e, (simp e f, simp e g))
