-- The schedule (SCOPE, "The job" and "A row goes out"): how many output rows are made by how many crop rows. Crop height h, target
-- height g, both at least 1. Assumes nothing.
use Rattle.std.specs.Prelude.{ℕ, zero, suc, ◌+◌, ◌-◌, ◌*◌, ◌/◌, min, Bool, cond, ◌&&◌, leb, eqb}
use Rattle.arithmetic.specs.Quotient.{ceil}

-- u = min(max(k - crop top, 0), h): the crop rows among the first k source rows
abbrev pub used : ℕ → ℕ → ℕ → ℕ
used top h k = min (k - top) h

-- R of u: u×g/h if g ≤ h; if g > h it is 0 for u = 0, g for h = 1, else 1 + (u-1)×(g-1)/(h-1)
unfoldable pub made : ℕ → ℕ → ℕ → ℕ
made h g u = cond (leb g h) (u * g / h) (cond (eqb u 0) 0 (cond (eqb h 1) g (1 + (u - 1) * (g - 1) / (h - 1))))

-- R(k)
abbrev pub rows_by : ℕ → ℕ → ℕ → ℕ → ℕ
rows_by top h g k = made h g (used top h k)

-- "k ≤ source height; R(k-1) ≤ t ≤ R(k) (t = 0 if k = 0)". For k = 0 the difference k - 1 is 0, and R(0) is 0.
unfoldable pub counts_fit : ℕ → ℕ → ℕ → ℕ → ℕ → ℕ → Bool
counts_fit top h g source k t = leb k source && leb (rows_by top h g (k - 1)) t && leb t (rows_by top h g k)

-- U Y, the crop rows that output row Y needs: the least u with R above Y (the laws say so)
unfoldable pub needed : ℕ → ℕ → ℕ → ℕ
needed h g y = cond (leb g h) (ceil (suc y * h) g) (cond (eqb h 1) 1 (1 + ceil (y * (h - 1)) (g - 1)))

-- U(Y - 1), which is 0 for the first row
unfoldable pub since : ℕ → ℕ → ℕ → ℕ
since h g zero = 0
since h g (suc y) = needed h g y
