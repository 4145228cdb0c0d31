-- The plan of a picture is begun. Assumes nothing.
use Rattle.job_start.proofs.start.Goals as goal

pub returns : goal.returns
returns c =
    record {
      number = c.begin.ensures.number;
      job = c.begin.ensures.job;
      work = c.begin.ensures.work;
    }
