-- `whole_plane`: the start of a plane with the whole source for its crop. Assumes nothing.
use Rattle.job_planes.proofs.whole_plane.Goals as goal

pub returns : goal.returns
returns c =
    let started = rw c.new-crop.ensures at c.start_plane.ensures in
    record { number = started.number; job = started.job; work = started.work }
