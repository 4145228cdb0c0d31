-- A text put into a buffer. Assumes nothing.
use Rattle.std.specs.Prelude.{ℕ, ◌+◌, cond, List, ◌++◌, leb, length, take, drop}

-- the text in the buffer from the place on; the buffer as it was where the text does not fit
unfoldable pub put_at : List ℕ → ℕ → List ℕ → List ℕ
put_at out place text =
    cond (leb (place + length text) (length out)) (take place out ++ (text ++ drop (place + length text) out)) out
