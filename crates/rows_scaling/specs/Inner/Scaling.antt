-- What the private functions of src/lib.rt are asked and what they write, a row of w values at a time: the bytes of Output and WorkRows with the
-- factors of the row already found. The public promises are those of Scaling. Assumes nothing.
use Rattle.std.specs.Prelude.{◌≡◌, ℕ, ◌+◌, ◌%◌, ◌^◌, ◌<◌, ◌≤◌, Bool, true, cond, List, length, ◌==◌, slice_index}
use Rattle.arithmetic.specs.Word.{wrap_sub}
use Rattle.arithmetic.specs.FixedPoint.{mult, floor, frac}
use Rattle.rows.specs.Output.{clamp, mixed}
use Rattle.rows.specs.WorkRows.{Scale}
use Rattle.rows_due.specs.Due.{due}

-- a row that is due
pub record RowAsks (s : Scale) (u y : ℕ) : Type 0 where
  pub span_some : 1 ≤ s.span
  pub h_some : 1 ≤ s.h
  pub ready : due s.h s.g u y ≡ true

-- two halves of w values in the work rows, w bytes of output
pub record RoomAsks (work out : List ℕ) (w : ℕ) : Type 0 where
  pub halves : w + w ≤ length work
  pub exact : length out ≡ w

-- a byte of output for each value of the newer and the older half, from places `new` and `old` on
pub record GrowAsks (work : List ℕ) (new old : ℕ) (out : List ℕ) : Type 0 where
  pub newer : new + length out ≤ length work
  pub older : old + length out ≤ length work

-- where the signed tests are used, the number fits them
abbrev pub Halved : Bool → ℕ → Type 0
Halved signed n = signed ≡ true → n < 2 ^ 31

-- f of place x, step being FRAC(1,g)×d mod 2^32
unfoldable pub shrink_left : ℕ → ℕ → List ℕ → ℕ → ℕ
shrink_left step w work x = floor (slice_index work (w + x)) step

-- MULT(first half - f, q)
unfoldable pub shrink_byte : ℕ → ℕ → ℕ → List ℕ → ℕ → ℕ
shrink_byte step q w work x = clamp (mult (wrap_sub (slice_index work x) (shrink_left step w work x)) q)

-- the first half's low byte
unfoldable pub low_byte : List ℕ → ℕ → ℕ
low_byte work x = slice_index work x % 256

-- FRAC(1, span); for span 1 the word next to exactly one, 2^32 - 1
unfoldable pub factor_up : ℕ → ℕ
factor_up span = cond (span == 1) 0xffff_ffff (frac 1 span)

-- MULT of the two mixed and that factor
unfoldable pub grow_byte : ℕ → ℕ → List ℕ → ℕ → ℕ → ℕ → ℕ
grow_byte b factor work new old x = clamp (mult (mixed b (slice_index work (new + x)) (slice_index work (old + x))) factor)
