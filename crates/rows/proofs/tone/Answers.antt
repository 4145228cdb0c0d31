-- `tone`: the low bits of what is low bits are they themselves. Assumes nothing.
use Rattle.std.proofs.Common.{◌∙◌}
use Rattle.rows.proofs.Tones.{toned_low}
use Rattle.rows.proofs.tone.Goals as goal

pub returns : goal.returns
returns c = c.tone.ensures ∙ toned_low c.args.byte c.args.alpha c.args.own c.new.ensures
