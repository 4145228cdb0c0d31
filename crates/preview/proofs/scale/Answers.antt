-- `scale` may run a job that was started: `start` refuses a row that the buffers cannot hold.
use Rattle.pixels_layout.specs.declared.PixelLayout.TheVariants.{Rgba8}
use Rattle.job_rules.specs.Rules.{plan_of}
use Rattle.preview.proofs.Buffers.{rows_fit}
use Rattle.preview.proofs.scale.Goals as goal

pub run_job-requires : goal.run_job-requires
run_job-requires c =
    let s = c.start in
    let f = rows_fit (plan_of c.args.source Rgba8 c.args.crop c.args.target) _ s.result c.in-Ok.job s.ensures.number s.ensures.job c.in-Ok.is in
    (f.source, f.target)
