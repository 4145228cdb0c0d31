-- The pieces, one behind the other. Assumes nothing.
use Rattle.pam_heading.proofs.Chain.{all_put}
use Prim.Native.Nat.{◌+◌}
use mathlib.Core.Path.{ap}
use Rattle.pam_heading.proofs.put_heading.Goals as goal

pub returns : goal.returns
returns c =
    let g = c.args in
    let a = c.digits_of-a in
    let b = c.digits_of in
    let put_all_lem = all_put g.size g.out.now c.put.new.out c.put_decimal.new.out c.put-2.new.out c.put_decimal-2.new.out c.put-3.new.out (9 + a.result) (9 + a.result + 8 + b.result) in
    let first = put_all_lem c.requires c.put.ensures c.put_decimal.ensures (ap (λ k. 9 + k) a.ensures) in
    first c.put-2.ensures c.put_decimal-2.ensures (ap (λ k. 9 + a.result + 8 + k) b.ensures) c.put-3.ensures
