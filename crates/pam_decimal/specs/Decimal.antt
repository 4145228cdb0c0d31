-- Numbers below 100,000 in decimal, "no leading zeros". Assumes nothing.
use Rattle.std.specs.Prelude.{ℕ, ◌+◌, ◌/◌, ◌%◌, cond, List, [], ◌∷◌, ◌++◌, leb}

-- the digit of n at the place p, which is 1, 10, 100, 1000 or 10000, in ASCII
abbrev pub digit_at : ℕ → ℕ → ℕ
digit_at n p = 48 + n / p % 10

-- the digit, where the number reaches that place
abbrev pub shown : ℕ → ℕ → List ℕ
shown n p = cond (leb p n) (digit_at n p ∷ []) []

unfoldable pub decimal_of : ℕ → List ℕ
decimal_of n = shown n 10000 ++ (shown n 1000 ++ (shown n 100 ++ (shown n 10 ++ (digit_at n 1 ∷ []))))
