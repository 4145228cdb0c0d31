-- A refusal is handed on with the record; else the rows are added and the record moves on by their count. Assumes nothing.
use Rattle.job_band.proofs.Answering.{band_refused, band_accepts, accepted_fits}
use Rattle.job_band.specs.Bands.{band_number}
use lib.ListN.{length}
use mathlib.Core.Path.{◌≡◌, sym}
use native.Mathlib.Omega.{arith}
use Rattle.job_band.proofs.offer_band.Goals as goal

pub returns-in-Err : goal.returns-in-Err
returns-in-Err c =
    let a = c.args in
    let both = band_refused a.j a.rows.now a.work.now c.in-Err.why (sym c.in-Err.ensures) in
    record { number = both.0; rows = both.1.0; job = both.1.1.0; work = both.1.1.1 }

pub add_band-n-requires : goal.add_band-n-requires
add_band-n-requires c = sym c.in-Ok.ensures

pub overflow_add-next : goal.overflow_add-next
overflow_add-next c =
    let a = c.args in
    let z : band_number a.j (length a.rows.now) (length a.work.now) ≡ 0 = sym c.in-Ok.ensures in
    omega (arith, accepted_fits a.j a.rows.now a.work.now z _ c.add_band-n.ensures.rows)

pub returns-in-Ok : goal.returns-in-Ok
returns-in-Ok c =
    let a = c.args in
    let z : band_number a.j (length a.rows.now) (length a.work.now) ≡ 0 = sym c.in-Ok.ensures in
    let both = band_accepts a.j a.rows.now a.work.now z _ _ c.add_band-n.ensures.rows c.add_band-n.ensures.work in
    record { number = both.0; rows = both.1.0; job = both.1.1.0; work = both.1.1.1 }
