-- Each kind has its own plan. Assumes nothing.
use Rattle.group_start.proofs.Forming.{of_picture, of_plane}
use Rattle.group_start.proofs.formed_plan.Goals as goal

pub returns-in-Picture : goal.returns-in-Picture
returns-in-Picture c = of_picture c.args.p c.in-Picture.is

pub returns-in-Plane : goal.returns-in-Plane
returns-in-Plane c = of_plane c.args.p c.in-Plane.is
