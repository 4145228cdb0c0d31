-- `mult_argb` meets its contract: the colours of the pixel's lanes, each scaled by the factor of the high byte, put together again. Assumes nothing.
use Rattle.arithmetic.proofs.Mattes.{argb_made}
use Rattle.arithmetic.proofs.matting.mult_argb.Goals as goal

pub returns : goal.returns
returns c =
    argb_made c.args.argb c.args.inverse _ c.ranges.argb.fits c.to_le_bytes.ensures
    c.scale.ensures c.scale-2.ensures c.scale-3.ensures c.from_le_bytes.ensures
