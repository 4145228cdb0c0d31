-- The boundary's test, the record's words, then the library's answer: a refusal keeps everything, an accepting offer stores the group and how many rows. Assumes nothing.
use lib.ListN.{length}
use borrow.Author.Tests.{lt-ltb}
use Rattle.capi_group.proofs.Calling.{offer_misused, offer_no_group, offer_refused, offer_accepted}
use Rattle.capi_group.proofs.jonquilsaw_offer_group.Goals as goal

pub returns-then-accepted-lt1 : goal.returns-then-accepted-lt1
returns-then-accepted-lt1 c =
    let g = c.args in
    let both = offer_misused g.«record».now g.rows.now g.work.now g.accepted.now (lt-ltb (length g.accepted.now) 1 c.if-accepted-lt1.true) in
    record { number = both.0; «record» = both.1.0; work = both.1.1.0; accepted = both.1.1.1 }

pub returns-in_default : goal.returns-in_default
returns-in_default c =
    let g = c.args in
    let both = offer_no_group g.«record».now g.rows.now g.work.now g.accepted.now c.if-accepted-lt1.false c.read_group.ensures c.in_default.is c.number.result c.number.ensures in
    record { number = both.0; «record» = both.1.0; work = both.1.1.0; accepted = both.1.1.1 }

pub returns-in-Err : goal.returns-in-Err
returns-in-Err c =
    let b = c.offer_group-offered in
    let g = c.args in
    let both = offer_refused g.«record».now g.rows.now g.work.now g.accepted.now c.if-accepted-lt1.false c.read_group.ensures c.in-Some.group c.in-Some.is _ b.result.said b.ensures.number b.ensures.work c.in-Err.why c.number-in-Err.result c.in-Err.is c.number-in-Err.ensures in
    record { number = both.0; «record» = both.1.0; work = both.1.1.0; accepted = both.1.1.1 }

pub returns-in-Ok : goal.returns-in-Ok
returns-in-Ok c =
    let b = c.offer_group-offered in
    let g = c.args in
    let both = offer_accepted g.«record».now g.rows.now g.work.now g.accepted.now c.if-accepted-lt1.false c.read_group.ensures c.in-Some.group c.in-Some.is _ b.result.said b.ensures.number b.ensures.work c.in-Ok.n b.result.next _ _ c.in-Ok.is b.ensures.rows b.ensures.group c.store_group.ensures c.store.ensures in
    record { number = both.0; «record» = both.1.0; work = both.1.1.0; accepted = both.1.1.1 }
