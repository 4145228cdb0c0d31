-- What the private functions ask and ensure. Assumes nothing.
use Rattle.std.specs.Prelude.{ℕ, ◌+◌, ◌*◌, List, get_or}

-- the alphas' two sums of column k, where alphas stand at `place`
unfoldable pub alpha_sum : List ℕ → ℕ → ℕ → ℕ
alpha_sum sums place k = get_or sums (8 * k + place) 0 + get_or sums (8 * k + place + 4) 0
