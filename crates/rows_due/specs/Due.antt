-- When an output row can be made (SCOPE, "A row goes out"): d of the row lies in its range. h and g are the heights of crop and target, u crop
-- rows are used, y is SCOPE's Y. Assumes nothing.
use Rattle.std.specs.Prelude.{ℕ, suc, ◌+◌, ◌-◌, ◌*◌, Bool, cond, ◌&&◌, ltb, leb}

-- from 0 up to below room, x - from
abbrev pub within : ℕ → ℕ → ℕ → Bool
within x from room = leb from x && ltb x (from + room)

-- u crop rows are those of row y: d = u×g - (Y+1)×h is at least 0 and below g, or d = (u-1)×(g-1) - Y×(h-1) is at least 0 and below g - 1
unfoldable pub due : ℕ → ℕ → ℕ → ℕ → Bool
due h g u y =
    cond (leb g h)
    (within (u * g) (suc y * h) g)
    (ltb 0 u && within ((u - 1) * (g - 1)) (y * (h - 1)) (g - 1))
