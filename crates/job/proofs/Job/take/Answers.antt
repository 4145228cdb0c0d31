-- A refusal is handed on with the record; else the row is written and the record moves on by one. Assumes nothing.
use mathlib.Core.Path.{◌≡◌, sym}
use lib.ListN.{length}
use native.Mathlib.Omega.{arith}
use Rattle.job.specs.Calls.{take_number}
use Rattle.job.proofs.Answering.{take_refused, take_writes, made_fits}
use Rattle.job.proofs.Views.{take_went}
use Rattle.job.proofs.Job.take.Goals as goal

pub returns-in-Err : goal.returns-in-Err
returns-in-Err c = let a = c.args in
    let both = take_refused a.self a.out.now a.work.now c.in-Err.why (sym c.in-Err.ensures) in
    record { number = both.0; job = both.1.0; out = both.1.1.0; work = both.1.1.1 }

pub row_out-requires : goal.row_out-requires
row_out-requires c = sym c.in-Ok.ensures

pub overflow_add-self : goal.overflow_add-self
overflow_add-self c =
    let a = c.args in
    let z : take_number a.self (length a.out.now) (length a.work.now) ≡ 0 = sym c.in-Ok.ensures in
    let w = take_went a.self a.out.now a.work.now z in
    omega (arith, made_fits a.self w.rules, w.ready)

pub returns-in-Ok : goal.returns-in-Ok
returns-in-Ok c =
    let a = c.args in
    let z : take_number a.self (length a.out.now) (length a.work.now) ≡ 0 = sym c.in-Ok.ensures in
    let both = take_writes a.self a.out.now a.work.now z _ _ _ c.row_out.ensures.out c.row_out.ensures.work c.row_out.ensures.flag in
    record { number = both.0; job = both.1.0; out = both.1.1.0; work = both.1.1.1 }
