-- A refusal is handed on with its number; else the parts of all jobs are cleared. Assumes nothing.
use Rattle.group_start.proofs.Starting.{start_turned, start_room, start_went}
use Rattle.group_start.proofs.start_group.Goals as goal

pub returns-in-Err : goal.returns-in-Err
returns-in-Err c =
    let a = c.args in
    let both = start_turned a.plans a.count a.work.now c.in-Err.why c.in-Err.ensures.number _ c.group_of.ensures in
    record { number = both.0; group = both.1.0; work = both.1.1 }

pub clear-requires : goal.clear-requires
clear-requires c =
    let a = c.args in
    start_room a.plans a.count a.work.now c.in-Ok.ensures.number _ c.in-Ok.ensures.place

pub returns-in-Ok : goal.returns-in-Ok
returns-in-Ok c =
    let a = c.args in
    let both = start_went a.plans a.count a.work.now c.in-Ok.ensures.number _ c.in-Ok.ensures.place _ _ c.group_of-in-Ok.ensures c.clear.ensures in
    record { number = both.0; group = both.1.0; work = both.1.1 }
