-- `put_between`: a lane a turn. Assumes nothing.
-- the lane's part of a pixel may be read
use Rattle.std.proofs.Common.{◌≡◌}
use Rattle.rows_widening.specs.Inner.{set_all, between_value}
use Rattle.rows_widening.proofs.put_between.Given as goal

abbrev pub invariant-loop-k : goal.invariant-loop-k
invariant-loop-k l = l.half ≡ set_all l.initial.half l.at (between_value l.lanes l.row l.left l.right l.acc l.rest) l.k
