-- `order_lanes` meets its contract: one function of a word for each layout that is not the scaler's own order. Assumes nothing.
use Rattle.rows_restoring.proofs.RestoredPixels.{ordered_same}
use Rattle.rows_restoring.proofs.order_lanes.Goals as goal

pub returns-in-Bgra8 : goal.returns-in-Bgra8
returns-in-Bgra8 c = rw c.in-Bgra8.is (ordered_same c.args.out.now)
