-- The 32-bit number that a text of decimal digits stands for. Assumes nothing.
use Rattle.std.specs.Prelude.{ℕ, zero, suc, ◌+◌, ◌*◌, ◌%◌, ◌^◌, min, Bool, true, cond, ◌&&◌, List, leb, ltb, eqb, length, get_or, Option, Some, None}

-- the ASCII codes of the digits are 48 to 57
abbrev pub is_digit : ℕ → Bool
is_digit b = leb 48 b && leb b 57

-- 48 is a multiple of 16, so the rest by 16 is the digit
abbrev pub digit_of : ℕ → ℕ
digit_of b = b % 16

-- the first k bytes are digits
unfoldable pub digits : List ℕ → ℕ → Bool
digits text zero = true
digits text (suc k) = digits text k && is_digit (get_or text k 0)

-- what the first k digits stand for, the most significant first
unfoldable pub value : List ℕ → ℕ → ℕ
value text zero = 0
value text (suc k) = 10 * value text k + digit_of (get_or text k 0)

-- stands for no number: what no 32-bit number is
abbrev pub none : ℕ
none = 2 ^ 32

-- the number; none where the text is empty, where a byte is no digit and where the number does not fit 32 bits
abbrev pub decimal : List ℕ → ℕ
decimal text = cond (eqb (length text) 0) none (cond (digits text (length text)) (min (value text (length text)) none) none)

-- the number as the program has it
abbrev pub decimal_value : List ℕ → Option ℕ
decimal_value text = cond (ltb (decimal text) none) (Some (decimal text)) None
