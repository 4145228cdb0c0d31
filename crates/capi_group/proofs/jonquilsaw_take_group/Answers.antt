-- The record's words, then the library's answer: a refusal keeps everything, a row written stores the group. Assumes nothing.
use Rattle.capi_group.proofs.Calling.{take_no_group, take_refused, take_wrote}
use Rattle.capi_group.proofs.jonquilsaw_take_group.Goals as goal

pub returns-in_default : goal.returns-in_default
returns-in_default c =
    let g = c.args in
    let both = take_no_group g.«record».now g.job g.out.now g.work.now c.read_group.ensures c.in_default.is c.number.result c.number.ensures in
    record { number = both.0; «record» = both.1.0; out = both.1.1.0; work = both.1.1.1 }

pub returns-in-Err : goal.returns-in-Err
returns-in-Err c =
    let b = c.take_group-taken in
    let g = c.args in
    let both = take_refused g.«record».now g.job g.out.now g.work.now c.read_group.ensures c.in-Some.group c.in-Some.is _ _ b.result.said b.ensures.number b.ensures.out b.ensures.work c.in-Err.why c.number-in-Err.result c.in-Err.is c.number-in-Err.ensures in
    record { number = both.0; «record» = both.1.0; out = both.1.1.0; work = both.1.1.1 }

pub returns-in-Ok : goal.returns-in-Ok
returns-in-Ok c =
    let b = c.take_group-taken in
    let g = c.args in
    let both = take_wrote g.«record».now g.job g.out.now g.work.now c.read_group.ensures c.in-Some.group c.in-Some.is _ _ b.result.said b.ensures.number b.ensures.out b.ensures.work b.result.next _ c.in-Ok.is b.ensures.group c.store_group.ensures in
    record { number = both.0; «record» = both.1.0; out = both.1.1.0; work = both.1.1.1 }
