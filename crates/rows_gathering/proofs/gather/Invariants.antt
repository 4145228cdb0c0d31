-- `gather`: the invariant is `Gathering`, of bytes as they are read. Assumes nothing.
use Rattle.rows_gathering.proofs.Gathering.{Gathering}
use Rattle.rows_gathering.specs.Gathered.{read_at}
use Rattle.rows_gathering.proofs.gather.Given as goal

abbrev pub invariant-loop-k : goal.invariant-loop-k
invariant-loop-k l = Gathering (read_at l.plain l.row l.alpha.place) l.n l.m l.first l.count l.initial.sums l.sums l.c.to l.c.over l.k
