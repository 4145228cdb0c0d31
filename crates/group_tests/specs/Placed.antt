-- The place among the work values that a group's start and take answer with. Assumes nothing.
use Rattle.std.specs.Prelude.{ℕ, cond, eqb}

-- the place of an answer with the number n; a refusal has none: 0
abbrev pub place_if : ℕ → ℕ → ℕ
place_if n place = cond (eqb n 0) place 0
