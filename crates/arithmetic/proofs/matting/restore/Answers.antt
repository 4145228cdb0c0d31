-- `restore` meets its contract: the three cases of an alpha, and between them the smaller of colour and alpha times the alpha's entry. Assumes nothing.
use Rattle.std.proofs.Common.{ℕ, ◌-◌, get_or, sym, ap, ◌∙◌, arith}
use Rattle.arithmetic.specs.Matte.{scale_colour}
use Rattle.arithmetic.proofs.Mattes.{lent_opaque, lent_clear, lent_between}
use Rattle.arithmetic.proofs.matting.restore.Goals as goal

pub returns-then-alpha-eq255 : goal.returns-then-alpha-eq255
returns-then-alpha-eq255 c =
    let a = c.args in
    sym (lent_opaque a.factors.now a.colour a.alpha c.if-alpha-eq255.true)

pub returns-then-alpha-eq0 : goal.returns-then-alpha-eq0
returns-then-alpha-eq0 c =
    let a = c.args in
    sym (lent_clear a.factors.now a.colour a.alpha c.if-alpha-eq0.true)

pub returns : goal.returns
returns c =
    let a = c.args in
    c.mult_alpha.ensures
    ∙ ap (λ (x : ℕ). scale_colour x (get_or a.factors.now (a.alpha - 1) 0)) c.min.ensures
    ∙ sym (lent_between a.factors.now a.colour a.alpha (omega arith) (omega arith))
