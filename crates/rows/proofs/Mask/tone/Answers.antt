-- `tone`: the product of two bytes and a half fit 16 bits, and 257/65536 of it is the matte (`matte_257`). Assumes nothing.
use Rattle.std.proofs.Common.{ℕ, sym, ap, ◌∙◌, arith}
use Rattle.arithmetic.specs.Matte.{scale_colour, matte_factor}
use Rattle.rows.specs.Tones.{toned}
use Rattle.rows.proofs.Tones.{matte_257}
use Rattle.rows.proofs.Mask.tone.Goals as goal

pub returns : goal.returns
unfolding toned
returns c =
    sym (matte_257 c.args.byte c.factor.result (omega arith) c.factor.ensures.small)
    ∙ ap (λ (f : ℕ). scale_colour c.args.byte (matte_factor f)) c.factor.ensures.is
