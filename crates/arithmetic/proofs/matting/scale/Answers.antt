-- `scale` meets its contract: by SCOPE's factors a restored colour is cut at 255, and a matted one has nothing to cut. Assumes nothing.
use Rattle.std.proofs.Common.{true, sym, ◌∙◌, arith}
use Rattle.arithmetic.specs.Matte.{factor_of}
use Rattle.arithmetic.proofs.Mattes.{lent_is, cut_byte, matte_most, matte_not_cut}
use Rattle.arithmetic.proofs.matting.scale.Goals as goal

pub overflow_cast-result : goal.overflow_cast-result
overflow_cast-result c =
    let a = c.args in
    let cut = lent_is a.colour a.alpha (omega arith) (omega arith) c.requires c.restore.ensures in
    omega (arith, cut, cut_byte a.colour (factor_of true a.alpha))

pub returns-then-inverse : goal.returns-then-inverse
returns-then-inverse c =
    let a = c.args in
    lent_is a.colour a.alpha (omega arith) (omega arith) c.requires c.restore.ensures ∙ rw c.if-inverse.true

pub overflow_cast-result-2 : goal.overflow_cast-result-2
overflow_cast-result-2 c =
    let a = c.args in
    omega (arith, c.matte.ensures, matte_most a.colour a.alpha (omega arith))

pub returns : goal.returns
unfolding factor_of
returns c =
    let a = c.args in
    c.matte.ensures
    ∙ sym (matte_not_cut a.colour a.alpha (omega arith) (omega arith))
    ∙ rw c.if-inverse.false
