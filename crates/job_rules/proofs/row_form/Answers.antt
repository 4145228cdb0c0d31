-- A match on the kind. Assumes nothing.
use mathlib.Core.Path.{sym, ap}
use Rattle.job_rules.specs.Rules.{form_by}
use Rattle.job_rules.specs.declared.Kind.{Kind}
use Rattle.job_rules.proofs.row_form.Goals as goal

pub returns-in-Picture : goal.returns-in-Picture
returns-in-Picture c = let p = c.args.p in sym (ap (λ (k : Kind). form_by k p.layout p.lanes) c.in-Picture.is)

pub returns-in-Plane : goal.returns-in-Plane
returns-in-Plane c = let p = c.args.p in sym (ap (λ (k : Kind). form_by k p.layout p.lanes) c.in-Plane.is)
