-- `restore_pixel` meets its contract: its three colours are restored by the factor of its alpha. Assumes nothing.
use Rattle.rows_restoring.proofs.RestoredPixels.{colours_put}
use Rattle.rows_restoring.proofs.restore_pixel.Goals as goal

pub returns : goal.returns
returns c =
    let a = c.args in
    colours_put a.out.now a.at c.of-factor.ensures c.restored-b.ensures c.restored-g.ensures c.restored-r.ensures
