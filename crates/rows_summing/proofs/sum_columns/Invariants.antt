-- `sum_columns`: what stands after the block's sums stays; the bytes matted end the loop, and so do opaque ones as they stand. Assumes nothing.
use Rattle.rows_gathering.specs.Gathered.{block_columns}
use lib.ListN.{drop}
use mathlib.Core.Bool.{cond}
use mathlib.Core.Path.{◌≡◌}
use Prim.Native.Nat.{◌*◌}
use Rattle.rows_summing.proofs.sum_columns.Given as goal

abbrev pub invariant-loop-plain : goal.invariant-loop-plain
invariant-loop-plain l = drop (8 * block_columns l.m l.first) l.sums ≡ drop (8 * block_columns l.m l.first) l.initial.sums

abbrev pub decreases-loop-plain : goal.decreases-loop-plain
decreases-loop-plain l = cond l.plain 1 0
