-- A refusal is handed on with the group; else the rows counted are fed to all jobs and every record counts them. Assumes nothing.
use mathlib.Core.Path.{◌≡◌, sym}
use lib.ListN.{length}
use Rattle.group_rules.specs.Tests.{group_offer_number}
use Rattle.group.proofs.Going.{legal_offer}
use Rattle.group.proofs.Answering.{offer_refused, offer_accepts, count_fits}
use Rattle.group.proofs.offer_group.Goals as goal

pub returns-in-Err : goal.returns-in-Err
returns-in-Err c =
    let a = c.args in
    let both = offer_refused a.g a.rows.now a.work.now c.in-Err.why (sym c.in-Err.ensures) in
    record { number = both.0; rows = both.1.0; group = both.1.1.0; work = both.1.1.1 }

pub count_rows-c-requires : goal.count_rows-c-requires
count_rows-c-requires c = sym c.in-Ok.ensures

pub feed_rows-requires : goal.feed_rows-requires
feed_rows-requires c = (sym c.in-Ok.ensures, c.count_rows-c.ensures)

pub all_more-requires : goal.all_more-requires
all_more-requires c =
    let a = c.args in
    let z : group_offer_number a.g (length a.rows.now) (length a.work.now) ≡ 0 = sym c.in-Ok.ensures in
    (legal_offer a.g _ _ z, count_fits a.g a.rows.now a.work.now z _ c.count_rows-c.ensures)

pub returns-in-Ok : goal.returns-in-Ok
returns-in-Ok c =
    let a = c.args in
    let z : group_offer_number a.g (length a.rows.now) (length a.work.now) ≡ 0 = sym c.in-Ok.ensures in
    let both = offer_accepts a.g a.rows.now a.work.now z _ c.count_rows-c.ensures _ _ c.all_more.ensures c.feed_rows.ensures in
    record { number = both.0; rows = both.1.0; group = both.1.1.0; work = both.1.1.1 }
