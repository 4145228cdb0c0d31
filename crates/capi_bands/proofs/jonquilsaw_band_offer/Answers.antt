-- The boundary's test, the record's words, then the library's answer: a refusal keeps everything, an accepting band stores record and count. Assumes nothing.
use mathlib.Core.Path.{refl}
use lib.ListN.{length}
use borrow.Author.Tests.{lt-ltb}
use Rattle.capi_words.proofs.Boundary.{misuse_told, misuse_kept}
use Rattle.capi_bands.specs.Bands.{number_of_band, record_after_band, work_after_band, count_after_band}
use Rattle.capi_bands.proofs.Bands.{band_no_record, band_refused, band_accepted_lem}
use Rattle.capi_bands.proofs.jonquilsaw_band_offer.Goals as goal

pub returns-then-count-lt1 : goal.returns-then-count-lt1
unfolding number_of_band record_after_band work_after_band count_after_band
returns-then-count-lt1 c =
    let g = c.args in
    let f = lt-ltb (length g.count.now) 1 c.if-count-lt1.true in
    record {
      number = misuse_told _ refl f;
      «record» = misuse_kept _ refl f _ g.«record».now;
      work = misuse_kept _ refl f _ g.work.now;
      count = misuse_kept _ refl f _ g.count.now;
    }

pub returns-in_default : goal.returns-in_default
returns-in_default c =
    let g = c.args in
    let told = c.read_job.ensures in
    let lent = c.if-count-lt1.false in
    let both = band_no_record g.«record».now g.rows.now g.work.now g.count.now lent c.number.result told c.in_default.is c.number.ensures in
    record { number = both.0; «record» = both.1.0; work = both.1.1.0; count = both.1.1.1 }

pub returns-in-Err : goal.returns-in-Err
returns-in-Err c =
    let g = c.args in
    let both = band_refused g.«record».now g.rows.now g.work.now g.count.now c.if-count-lt1.false c.in-Some.job c.read_job.ensures c.in-Some.is
    c.offer_band-answer.result.said c.offer_band-answer.ensures.number _ c.offer_band-answer.ensures.work c.in-Err.why c.number-in-Err.result c.in-Err.is c.number-in-Err.ensures in
    record { number = both.0; «record» = both.1.0; work = both.1.1.0; count = both.1.1.1 }

pub returns-in-Ok : goal.returns-in-Ok
returns-in-Ok c =
    let g = c.args in
    let both = band_accepted_lem g.«record».now g.rows.now g.work.now g.count.now c.if-count-lt1.false c.in-Some.job c.read_job.ensures c.in-Some.is
    c.offer_band-answer.result.said c.offer_band-answer.ensures.number _ c.offer_band-answer.ensures.work _ _ _ _ c.in-Ok.is c.offer_band-answer.ensures.rows c.offer_band-answer.ensures.job
    c.store_job.ensures c.store.ensures in
    record { number = both.0; «record» = both.1.0; work = both.1.1.0; count = both.1.1.1 }
