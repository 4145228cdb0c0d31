-- A refusal is handed on with the record; else the rows are accepted and the record moves on by their count. Assumes nothing.
use mathlib.Core.Path.{◌≡◌, sym}
use lib.ListN.{length}
use native.Mathlib.Omega.{arith}
use Rattle.job.specs.Calls.{offer_number}
use Rattle.job.proofs.Answering.{offer_refused, offer_accepts, count_fits}
use Rattle.job.proofs.Views.{offer_went}
use Rattle.job.proofs.Job.offer.Goals as goal

pub returns-in-Err : goal.returns-in-Err
returns-in-Err c = let a = c.args in
    let both = offer_refused a.self a.rows.now a.work.now c.in-Err.why (sym c.in-Err.ensures) in
    record { number = both.0; rows = both.1.0; job = both.1.1.0; work = both.1.1.1 }

pub accept-n-requires : goal.accept-n-requires
accept-n-requires c = sym c.in-Ok.ensures

pub overflow_add-self : goal.overflow_add-self
overflow_add-self c =
    let a = c.args in
    let z : offer_number a.self (length a.rows.now) (length a.work.now) ≡ 0 = sym c.in-Ok.ensures in
    omega (arith, count_fits a.self _ _ (offer_went a.self a.rows.now a.work.now z).rules c.accept-n.ensures.rows)

pub returns-in-Ok : goal.returns-in-Ok
returns-in-Ok c =
    let a = c.args in
    let z : offer_number a.self (length a.rows.now) (length a.work.now) ≡ 0 = sym c.in-Ok.ensures in
    let both = offer_accepts a.self a.rows.now a.work.now z _ _ c.accept-n.ensures.rows c.accept-n.ensures.work in
    record { number = both.0; rows = both.1.0; job = both.1.1.0; work = both.1.1.1 }
