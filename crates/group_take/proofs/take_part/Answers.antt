-- The part that the code cuts is the part of the definition, and is put back there. Assumes nothing.
use mathlib.Core.Path.{ap, ◌∙◌}
use mathlib.Core.List.{List}
use Prim.Native.Nat.{ℕ}
use native.Mathlib.Omega.{arith}
use lib.ListN.{length, set}
use Rattle.job.specs.declared.Job.{Job}
use Rattle.job.specs.Calls as job
use Rattle.group_rules.specs.Group.{job_at}
use Rattle.group.specs.Calls.{with_jobs}
use Rattle.group_rules.proofs.Going.{group_take_goes}
use Rattle.group.proofs.Going.{take_within, take_small, take_fits, take_cut, take_put}
use Rattle.group_take.proofs.take_part.Goals as goal

pub offset_bounds-g-k : goal.offset_bounds-g-k
offset_bounds-g-k c =
    omega (arith, take_within c.args.g c.args.k c.args.at (length c.args.out.now) c.args.work.now (group_take_goes _ _ _ _ c.requires.0) c.requires.1)

pub bounds-g-k : goal.bounds-g-k
bounds-g-k c =
    take_within c.args.g c.args.k c.args.at (length c.args.out.now) c.args.work.now (group_take_goes _ _ _ _ c.requires.0) c.requires.1

pub overflow_mul-end : goal.overflow_mul-end
overflow_mul-end c =
    omega (arith, take_small c.args.g c.args.k c.args.at (length c.args.out.now) c.args.work.now (group_take_goes _ _ _ _ c.requires.0) c.requires.1 _ c.row_bytes.ensures)

pub overflow_add-end : goal.overflow_add-end
overflow_add-end c =
    omega (arith, take_small c.args.g c.args.k c.args.at (length c.args.out.now) c.args.work.now (group_take_goes _ _ _ _ c.requires.0) c.requires.1 _ c.row_bytes.ensures)

pub offset_bounds-work-at : goal.offset_bounds-work-at
offset_bounds-work-at c =
    omega (arith, take_small c.args.g c.args.k c.args.at (length c.args.out.now) c.args.work.now (group_take_goes _ _ _ _ c.requires.0) c.requires.1 _ c.row_bytes.ensures)

pub slice_bounds-take-end : goal.slice_bounds-take-end
slice_bounds-take-end c =
    take_fits c.args.g c.args.k c.args.at (length c.args.out.now) c.args.work.now (group_take_goes _ _ _ _ c.requires.0) c.requires.1 _ c.row_bytes.ensures

pub offset_bounds-g-k-2 : goal.offset_bounds-g-k-2
offset_bounds-g-k-2 c =
    omega (arith, take_within c.args.g c.args.k c.args.at (length c.args.out.now) c.args.work.now (group_take_goes _ _ _ _ c.requires.0) c.requires.1)

pub bounds-g-k-2 : goal.bounds-g-k-2
bounds-g-k-2 c =
    take_within c.args.g c.args.k c.args.at (length c.args.out.now) c.args.work.now (group_take_goes _ _ _ _ c.requires.0) c.requires.1

pub returns : goal.returns
returns c =
    let a = c.args in
    let o = group_take_goes _ _ _ _ c.requires.0 in
    let at = c.requires.1 in
    let half = c.row_bytes.ensures in
    let part = take_cut a.g a.k a.at (length a.out.now) a.work.now o at _ half in
    let next = c.take-taken.ensures.job ∙ ap (λ (z : List ℕ). job.take_job (job_at a.g.jobs a.k) (length a.out.now) z) part in
    let row = c.take-taken.ensures.out ∙ ap (λ (z : List ℕ). job.take_out (job_at a.g.jobs a.k) a.out.now z) part in
    let left = c.take-taken.ensures.work ∙ ap (λ (z : List ℕ). job.take_work (job_at a.g.jobs a.k) (length a.out.now) z) part in
    record {
      group = ap (λ (z : Job). with_jobs a.g (set a.g.jobs a.k z)) next;
      out = row;
      work = take_put a.g a.k a.at (length a.out.now) a.work.now o at _ half _ _ left;
    }
