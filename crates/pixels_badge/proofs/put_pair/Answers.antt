-- The two bytes of the number, one after the other. Assumes nothing.
use native.Mathlib.Omega.{arith}
use lib.ListN.{length-set}
use Rattle.pixels_badge.proofs.Blocks.{pair_put}
use Rattle.pixels_badge.proofs.put_pair.Goals as goal

pub bounds-bytes-at-2 : goal.bounds-bytes-at-2
bounds-bytes-at-2 c = simp length-set (omega arith)

pub returns : goal.returns
returns c = let a = c.args in pair_put a.bytes.now _ a.at a.v c.ranges.v.fits c.to_le_bytes.ensures
