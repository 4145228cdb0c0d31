-- The loop keeps the job under way and takes one row each turn. Assumes nothing.
use Rattle.job_resize.proofs.Ending.{driven}
use Rattle.job_resize.proofs.Turning.{asked_going, pixels_room, out_same, turn_room, turn_less, turn_going}
use Rattle.job_resize.proofs.drive.Goals as goal

pub loop-job-init : goal.loop-job-init
loop-job-init c = let a = c.args in asked_going a.first a.pixels.now a.out.now a.work.now (c.requires)

pub feed-fed-requires : goal.feed-fed-requires
feed-fed-requires c =
    let a = c.args in
    let l = c.loop-job in
    pixels_room _ a.pixels.now a.out.now a.work.now l.job l.out l.work l.invariant

pub emit-job-requires : goal.emit-job-requires
emit-job-requires c =
    let a = c.args in
    let l = c.loop-job in
    turn_room _ a.pixels.now a.out.now a.work.now l.job l.out l.work l.invariant c.loop-job-test.true _ c.feed-fed.ensures.job _ c.feed-fed.ensures.work

pub loop-job-smaller : goal.loop-job-smaller
loop-job-smaller c =
    let a = c.args in
    let l = c.loop-job in
    turn_less _ a.pixels.now a.out.now a.work.now l.job l.out l.work l.invariant c.loop-job-test.true _ c.feed-fed.ensures.job _ c.feed-fed.ensures.work _ c.emit-job.ensures.job

pub loop-job-preserved : goal.loop-job-preserved
loop-job-preserved c =
    let a = c.args in
    let l = c.loop-job in
    turn_going _ a.pixels.now a.out.now a.work.now l.job l.out l.work l.invariant c.loop-job-test.true _ c.feed-fed.ensures.job _ c.feed-fed.ensures.work _ c.emit-job.ensures.job _ _ c.emit-job.ensures.out c.emit-job.ensures.work

pub shape_of-out : goal.shape_of-out
shape_of-out c =
    let a = c.args in
    let l = c.loop-job in
    out_same _ a.pixels.now a.out.now a.work.now l.job l.out l.work l.invariant

pub shape_of-work : goal.shape_of-work
shape_of-work c = c.loop-job.invariant.long

pub returns : goal.returns
returns c =
    let a = c.args in
    let l = c.loop-job in
    driven _ a.pixels.now a.out.now a.work.now l.job l.out l.work l.invariant c.loop-job-test.false
