-- The next row is taken into its place of the output. Assumes nothing.
use Prim.Native.Nat.{ℕ, ◌*◌}
use mathlib.Core.Path.{ap}
use native.Mathlib.Omega.{arith}
use Rattle.job_resize.proofs.Turning.{emits, end_less_start}
use Rattle.job_resize.proofs.emit.Goals as goal

pub overflow_mul-at : goal.overflow_mul-at
overflow_mul-at c = let a = c.args in omega (arith, ap (λ (t : ℕ). t * a.job.taken) c.row_bytes-size.ensures, c.requires, c.well_formed.1.0.1)

pub overflow_add-at : goal.overflow_add-at
overflow_add-at c = let a = c.args in omega (arith, ap (λ (t : ℕ). t * a.job.taken) c.row_bytes-size.ensures, c.row_bytes-size.ensures, c.requires, c.well_formed.1.0.1)

pub slice_bounds-take-end : goal.slice_bounds-take-end
slice_bounds-take-end c = let a = c.args in omega (arith, ap (λ (t : ℕ). t * a.job.taken) c.row_bytes-size.ensures, c.row_bytes-size.ensures, c.requires)

pub returns : goal.returns
returns c =
    let a = c.args in
    let taken = rw c.row_bytes-size.ensures at c.take.ensures in
    rw c.row_bytes-size.ensures
    (let both = emits a.job a.out.now a.work.now _ (end_less_start _ _) (c.requires) _ taken.job _ taken.out _ taken.work in
    record { job = both.0; out = both.1.0; work = both.1.1 })
