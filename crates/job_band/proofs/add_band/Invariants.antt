-- The loop keeps `Adding`: the rows from the present one to the last are summed. Then the last goes to the second half once more, if it is not the only one. Assumes nothing.
use Rattle.job_band.proofs.Adding.{Adding}
use Rattle.job_band.proofs.add_band.Given as goal

abbrev pub invariant-loop-i : goal.invariant-loop-i
invariant-loop-i l = Adding l.j.plan l.rows l.initial.work l.n l.work l.i
