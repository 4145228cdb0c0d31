-- The four places, read off the table. Assumes nothing.
use Rattle.pixels_layout.proofs.Tabled.{places_from}
use Rattle.pixels_layout.proofs.PixelLayout.places.Goals as goal

pub returns : goal.returns
returns c = places_from c.args.self c.place.ensures.is c.place-2.ensures.is c.place-3.ensures.is c.place-4.ensures.is
