-- `pairs`: the invariant is `Pairing`, of bytes as they are read. Assumes nothing.
use Rattle.std.proofs.Common.{nat_eq, ◌+◌, ◌*◌, ◌-◌}
use mathlib.Core.Bool.{not}
use Rattle.rows_gathering.proofs.Pairing.{Pairing}
use Rattle.rows_gathering.specs.Gathered.{read_at}
use Rattle.rows_gathering.proofs.pairs.Given as goal

abbrev pub invariant-loop-got : goal.invariant-loop-got
invariant-loop-got g l = Pairing (read_at (not (nat_eq g.row.PLAIN 0)) l.row l.alpha.place) l.from l.count l.m l.sum l.x l.got

abbrev pub decreases-loop-got : goal.decreases-loop-got
decreases-loop-got g l = l.count * l.m + l.m - l.got
