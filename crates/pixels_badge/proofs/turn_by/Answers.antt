-- Each arm is the loop of its two layouts. Assumes nothing.
use Rattle.pixels_badge.proofs.turn_by.Goals as goal

pub returns-in-Rgba8-from : goal.returns-in-Rgba8-from
returns-in-Rgba8-from c =
    rw (c.in-Rgba8.is, c.in-Rgba8-from.is) (record {
      a = c.turn.ensures.alphas;
      c = c.turn.ensures.colours;
    })

pub returns-in-Argb8-from : goal.returns-in-Argb8-from
returns-in-Argb8-from c =
    rw (c.in-Rgba8.is, c.in-Argb8-from.is) (record {
      a = c.turn-in-Argb8-from.ensures.alphas;
      c = c.turn-in-Argb8-from.ensures.colours;
    })

pub returns-in-Bgra8-from : goal.returns-in-Bgra8-from
returns-in-Bgra8-from c =
    rw (c.in-Rgba8.is, c.in-Bgra8-from.is) (record {
      a = c.turn-in-Bgra8-from.ensures.alphas;
      c = c.turn-in-Bgra8-from.ensures.colours;
    })

pub returns-in-Rgba8-from-2 : goal.returns-in-Rgba8-from-2
returns-in-Rgba8-from-2 c =
    rw (c.in-Argb8.is, c.in-Rgba8-from-2.is) (record {
      a = c.turn-in-Rgba8-from-2.ensures.alphas;
      c = c.turn-in-Rgba8-from-2.ensures.colours;
    })

pub returns-in-Argb8-from-2 : goal.returns-in-Argb8-from-2
returns-in-Argb8-from-2 c =
    rw (c.in-Argb8.is, c.in-Argb8-from-2.is) (record {
      a = c.turn-in-Argb8-from-2.ensures.alphas;
      c = c.turn-in-Argb8-from-2.ensures.colours;
    })

pub returns-in-Bgra8-from-2 : goal.returns-in-Bgra8-from-2
returns-in-Bgra8-from-2 c =
    rw (c.in-Argb8.is, c.in-Bgra8-from-2.is) (record {
      a = c.turn-in-Bgra8-from-2.ensures.alphas;
      c = c.turn-in-Bgra8-from-2.ensures.colours;
    })

pub returns-in-Rgba8-from-3 : goal.returns-in-Rgba8-from-3
returns-in-Rgba8-from-3 c =
    rw (c.in-Bgra8.is, c.in-Rgba8-from-3.is) (record {
      a = c.turn-in-Rgba8-from-3.ensures.alphas;
      c = c.turn-in-Rgba8-from-3.ensures.colours;
    })

pub returns-in-Argb8-from-3 : goal.returns-in-Argb8-from-3
returns-in-Argb8-from-3 c =
    rw (c.in-Bgra8.is, c.in-Argb8-from-3.is) (record {
      a = c.turn-in-Argb8-from-3.ensures.alphas;
      c = c.turn-in-Argb8-from-3.ensures.colours;
    })

pub returns-in-Bgra8-from-3 : goal.returns-in-Bgra8-from-3
returns-in-Bgra8-from-3 c =
    rw (c.in-Bgra8.is, c.in-Bgra8-from-3.is) (record {
      a = c.turn-in-Bgra8-from-3.ensures.alphas;
      c = c.turn-in-Bgra8-from-3.ensures.colours;
    })
