-- A length that is no whole number of pixels is another; else the pixels are counted, so that no product is too large. Assumes nothing.
use Rattle.pixels.proofs.Fitting.{ragged, pixels_alike}
use Rattle.pixels_sizes.proofs.wrong_length.Goals as goal

pub returns-then-n-ne0 : goal.returns-then-n-ne0
returns-then-n-ne0 c = let a = c.args in ragged a.n a.size.width a.size.height c.if-n-ne0.true

pub returns : goal.returns
returns c =
    let a = c.args in
    pixels_alike a.n a.size.width a.size.height _ c.if-n-ne0.false c.pixel_count.ensures
