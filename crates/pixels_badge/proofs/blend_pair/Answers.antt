-- Both sums are bytes, so that the number of the two fits. Assumes nothing.
use Rattle.std.proofs.Common.{◌≡◌, ◌/◌, ◌%◌, arith}
use Rattle.pixels_badge.proofs.Blocks.{pair_blended}
use Rattle.pixels_badge.proofs.blend_pair.Goals as goal

pub returns : goal.returns
returns c =
    let a = c.args in
    let f = c.ranges in
    let over_high : a.over / 256 % 256 ≡ a.over / 256 = omega (arith, f.over.fits) in
    let under_high : a.under / 256 % 256 ≡ a.under / 256 = omega (arith, f.under.fits) in
    let low = rw (c.to_le_bytes.ensures, c.to_le_bytes-2.ensures, c.to_le_bytes-3.ensures) at c.blend-low.ensures.is in
    let high = rw (c.to_le_bytes.ensures, c.to_le_bytes-2.ensures, c.to_le_bytes-3.ensures, over_high, under_high) at c.blend-high.ensures.is in
    rw c.from_le_bytes.ensures (omega (arith, pair_blended a.alpha a.over a.under f.over.fits f.under.fits low high))
