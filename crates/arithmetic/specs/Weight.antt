-- The weights of one axis, n source steps to m output steps (SCOPE, "A row comes in" and "Exact mean"). Assumes nothing.
use Rattle.std.specs.Prelude.{ℕ, suc, ◌-◌, ◌*◌, min, max, cond, nat_le}

-- SCOPE's span, which is also the total of an output step's weights: n if m ≤ n, else m - 1
unfoldable pub span : ℕ → ℕ → ℕ
span n m = cond (nat_le m n) n (m - 1)

-- how much of [x, x') lies in [y, y'): 0 where they do not meet
abbrev pub overlap : ℕ → ℕ → ℕ → ℕ → ℕ
overlap x x' y y' = min x' y' - max x y

-- m ≤ n: the overlap of source step i and output step j
unfoldable pub shrink_weight : ℕ → ℕ → ℕ → ℕ → ℕ
shrink_weight n m j i = overlap (i * m) (suc i * m) (j * n) (suc j * n)

-- |a - b|
abbrev pub distance : ℕ → ℕ → ℕ
distance a b = max a b - min a b

-- m > n: max(0, (m-1) - |p - i×(m-1)|) with p = j×(n-1)
unfoldable pub grow_weight : ℕ → ℕ → ℕ → ℕ → ℕ
grow_weight n m j i = (m - 1) - distance (j * (n - 1)) (i * (m - 1))

-- the weight of source step i in output step j
unfoldable pub weight : ℕ → ℕ → ℕ → ℕ → ℕ
weight n m j i = cond (nat_le m n) (shrink_weight n m j i) (grow_weight n m j i)
