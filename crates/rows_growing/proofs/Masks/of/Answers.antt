-- `of`: nothing for a colour and all bits for the alpha, since it stands first or last. Assumes nothing.
use Rattle.std.proofs.Common.{arith}
use Rattle.rows_growing.proofs.Tones.{owns_of}
use Rattle.rows_growing.proofs.Masks.of.Goals as goal

pub invariant_of-none : goal.invariant_of-none
invariant_of-none c = record { small = omega (arith, (owns_of c.args.layout c.places-p.ensures c.own_at-own.ensures).none_is) }

pub overflow_add-all : goal.overflow_add-all
overflow_add-all c = omega (arith, (owns_of c.args.layout c.places-p.ensures c.own_at-own.ensures).all_is)

pub invariant_of-all : goal.invariant_of-all
invariant_of-all c = record { small = omega (arith, (owns_of c.args.layout c.places-p.ensures c.own_at-own.ensures).all_is) }

pub invariant_of-result : goal.invariant_of-result
invariant_of-result c =
    let owns = owns_of c.args.layout c.places-p.ensures c.own_at-own.ensures in
    record { colour_is = owns.none_is; alpha_is = owns.all_is }
