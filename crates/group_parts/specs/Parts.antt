-- A list cut into parts that follow each other (SCOPE, "Groups": "one lent work slice cut among them in the order given"). The parts' lengths are a function n,
-- what changes them a function f. Assumes nothing.
use Rattle.std.specs.Prelude.{ℕ, zero, suc, ◌+◌, List, ◌++◌, take, drop}

-- where part i starts: where the part before it ends
unfoldable pub offset : (ℕ → ℕ) → ℕ → ℕ
offset n zero = 0
offset n (suc i) = offset n i + n i

abbrev pub part_at : (ℕ → ℕ) → ℕ → List ℕ → List ℕ
part_at n i w = take (n i) (drop (offset n i) w)

-- the list with ys in the place of the k values from a on
abbrev pub put_at : ℕ → ℕ → List ℕ → List ℕ → List ℕ
put_at a k w ys = take a w ++ (ys ++ drop k (drop a w))

-- the first i parts changed, each from what stands there
unfoldable pub each_part : (ℕ → ℕ) → (ℕ → List ℕ → List ℕ) → ℕ → List ℕ → List ℕ
each_part n f zero w = w
each_part n f (suc i) w = put_at (offset n i) (n i) (each_part n f i w) (f i (part_at n i (each_part n f i w)))
