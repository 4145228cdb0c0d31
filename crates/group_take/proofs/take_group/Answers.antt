-- A refusal is handed on with the group; else the job's own take, at the place that the test found. Assumes nothing.
use mathlib.Core.Path.{◌≡◌, sym}
use lib.ListN.{length}
use Rattle.group_rules.specs.Tests.{group_take_number}
use Rattle.group_take.proofs.Answering.{place_here, take_refused, take_writes}
use Rattle.group_take.proofs.take_group.Goals as goal

pub take_part-requires : goal.take_part-requires
take_part-requires c =
    let z = sym c.in-Ok.ensures.number in
    (z, place_here _ _ _ z c.in-Ok.ensures.place)

pub returns-in-Err : goal.returns-in-Err
returns-in-Err c =
    let a = c.args in
    let both = take_refused a.g a.job a.out.now a.work.now c.in-Err.why (sym c.in-Err.ensures.number) in
    record { number = both.0; group = both.1.0; out = both.1.1.0; work = both.1.1.1 }

pub returns-in-Ok : goal.returns-in-Ok
returns-in-Ok c =
    let a = c.args in
    let z : group_take_number a.g a.job (length a.out.now) (length a.work.now) ≡ 0 = sym c.in-Ok.ensures.number in
    let both = take_writes a.g a.job a.out.now a.work.now z _ _ _ c.take_part.ensures.group c.take_part.ensures.out c.take_part.ensures.work in
    record { number = both.0; group = both.1.0; out = both.1.1.0; work = both.1.1.1 }
