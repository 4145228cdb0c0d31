-- Each byte is the lane that the table has at its place. Assumes nothing.
use Rattle.arithmetic.proofs.Mattes.{bytes_lane}
use Rattle.pixels_layout.proofs.Packing.{pack_from}
use Rattle.pixels_layout.proofs.PixelLayout.pack.Goals as goal

pub returns : goal.returns
returns c =
    let lane = bytes_lane c.args.argb c.to_le_bytes-lanes.result c.to_le_bytes-lanes.ensures in
    pack_from _ _ c.place.ensures.is c.place-2.ensures.is c.place-3.ensures.is c.place-4.ensures.is
    (lane _ c.place.ensures.within) (lane _ c.place-2.ensures.within) (lane _ c.place-3.ensures.within) (lane _ c.place-4.ensures.within)
