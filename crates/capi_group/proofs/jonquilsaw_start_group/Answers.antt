-- The boundary's test, then the library's answer: a refusal keeps the words, a fresh group is stored. Assumes nothing.
use Rattle.capi_group.proofs.Calling.{start_misused, start_refused, start_fresh}
use Rattle.capi_group.proofs.jonquilsaw_start_group.Goals as goal

pub returns-in_default : goal.returns-in_default
returns-in_default c =
    let g = c.args in
    let both = start_misused g.plans.now g.count g.work.now g.«record».now c.read_plans.ensures c.in_default.is in
    record { number = both.0; work = both.1.0; «record» = both.1.1 }

pub returns-in-Err : goal.returns-in-Err
returns-in-Err c =
    let b = c.start_group-started in
    let g = c.args in
    let both = start_refused g.plans.now g.count g.work.now g.«record».now c.read_plans.ensures c.in-Some.given c.in-Some.is _ b.result.said b.ensures.number b.ensures.work c.in-Err.why c.number.result c.in-Err.is c.number.ensures in
    record { number = both.0; work = both.1.0; «record» = both.1.1 }

pub returns-in-Ok : goal.returns-in-Ok
returns-in-Ok c =
    let b = c.start_group-started in
    let g = c.args in
    let both = start_fresh g.plans.now g.count g.work.now g.«record».now c.read_plans.ensures c.in-Some.given c.in-Some.is _ b.result.said b.ensures.number b.ensures.work b.result.next _ c.in-Ok.is b.ensures.group c.store_group.ensures in
    record { number = both.0; work = both.1.0; «record» = both.1.1 }
