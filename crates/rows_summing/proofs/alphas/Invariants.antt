-- `alphas`: the invariant is `Adding`. Assumes nothing.
use Rattle.rows_summing.proofs.Opaque.{Adding}
use Rattle.rows_summing.proofs.alphas.Given as goal

abbrev pub invariant-loop-k : goal.invariant-loop-k
invariant-loop-k l = Adding l.sums l.place l.count l.total l.k
