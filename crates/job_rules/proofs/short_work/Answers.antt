-- Half the work values against a half, so that no product is doubled. Assumes nothing.
use Prim.Native.Nat.{ℕ, ◌*◌}
use mathlib.Core.Path.{ap, ◌∙◌}
use lib.Dec.{ltb}
use Rattle.job_rules.proofs.Testing.{halves}
use Rattle.job_rules.proofs.short_work.Goals as goal

pub returns : goal.returns
returns c = let n = c.args.n in halves n _ ∙ ap (λ (s : ℕ). ltb n (2 * s)) c.row_bytes.ensures
