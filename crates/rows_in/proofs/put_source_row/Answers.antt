-- Outside the crop nothing happens; inside it the window is put. Assumes nothing.
use Rattle.rows_in.proofs.Coming.{crop_above, crop_below, crop_inside, in_beside, in_put}
use Rattle.rows_in.proofs.put_source_row.Goals as goal

pub returns-then-s-crop : goal.returns-then-s-crop
returns-then-s-crop c =
    let a = c.args in
    let both = in_beside a.form a.crop a.target a.s a.row.now a.work.now (crop_above a.crop a.s c.if-s-crop.true) in
    record { number = both.0; work = both.1 }

pub returns-then-crop-c : goal.returns-then-crop-c
returns-then-crop-c c =
    let a = c.args in
    let both = in_beside a.form a.crop a.target a.s a.row.now a.work.now (crop_below a.crop a.s c.if-s-crop.false c.if-crop-c.true) in
    record { number = both.0; work = both.1 }

pub returns : goal.returns
returns c =
    let a = c.args in
    let inside = crop_inside a.crop a.s c.if-s-crop.false c.if-crop-c.false in
    let part = rw c.lanes.ensures at c.window-part.ensures in
    let both = in_put a.form a.crop a.target a.s a.row.now a.work.now inside _ part _ _ c.put_row.ensures.number c.put_row.ensures.work in
    record { number = both.0; work = both.1 }
