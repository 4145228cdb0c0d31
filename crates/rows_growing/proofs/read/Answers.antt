-- `read`: three colours matted and the alpha, as lane_bytes has them. Assumes nothing.
use native.Mathlib.Omega.{arith}
use Rattle.rows_growing.proofs.Tones.{read_colour, read_alpha}
use Rattle.rows.specs.Inner.Import.{matted_at, lane_bytes}
use Rattle.rows_growing.proofs.read.Goals as goal

pub returns : goal.returns
unfolding lane_bytes matted_at
returns c =
    let alpha = c.byte-alpha.ensures in
    let masks = c.args.masks in
    record {
      l0 = read_colour c.tone.ensures masks.colour_is c.byte.ensures alpha;
      l1 = read_colour c.tone-2.ensures masks.colour_is c.byte-2.ensures alpha;
      l2 = read_colour c.tone-3.ensures masks.colour_is c.byte-3.ensures alpha;
      l3 = read_alpha c.tone-4.ensures masks.alpha_is (omega arith) alpha;
    }
