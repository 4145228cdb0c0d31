-- Quotients. `/` rounds down; SCOPE's ceil rounds up. Assumes nothing.
use Rattle.std.specs.Prelude.{ℕ, ◌+◌, ◌-◌, ◌/◌}

-- SCOPE's ceil(x / d), for d above 0
unfoldable pub ceil : ℕ → ℕ → ℕ
ceil x d = (x + (d - 1)) / d
