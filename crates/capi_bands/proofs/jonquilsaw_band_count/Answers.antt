-- The boundary's test, the record's words, the record rules, then the count stored. Assumes nothing.
use mathlib.Core.Path.{refl}
use lib.ListN.{length}
use borrow.Author.Tests.{lt-ltb}
use Rattle.capi_words.proofs.Boundary.{misuse_told, misuse_kept}
use Rattle.capi_bands.specs.Bands.{number_of_count, count_after_count}
use Rattle.capi_bands.proofs.Bands.{count_no_record, count_refused, count_told}
use Rattle.capi_bands.proofs.jonquilsaw_band_count.Goals as goal

pub returns-then-count-lt1 : goal.returns-then-count-lt1
unfolding number_of_count count_after_count
returns-then-count-lt1 c =
    let g = c.args in
    let f = lt-ltb (length g.count.now) 1 c.if-count-lt1.true in
    record {
      number = misuse_told _ refl f;
      count = misuse_kept _ refl f _ g.count.now;
    }

pub returns-in_default : goal.returns-in_default
returns-in_default c =
    let args = c.args in
    let if1 = c.if-count-lt1 in
    let number = c.number in
    let read-job = c.read_job in
    let g = args in
    let both = count_no_record g.«record».now g.count.now if1.false number.result read-job.ensures c.in_default.is number.ensures in
    record { number = both.0; count = both.1 }

pub returns-then-not-check : goal.returns-then-not-check
returns-then-not-check c =
    let args = c.args in
    let if1 = c.if-count-lt1 in
    let read-job = c.read_job in
    let check = c.check in
    let number2 = c.number-then-not-check in
    let if2 = c.if-not-check in
    let g = args in
    let both = count_refused g.«record».now g.count.now if1.false c.in-Some.job read-job.ensures c.in-Some.is _ check.ensures number2.result if2.true-raw
    number2.ensures in
    record { number = both.0; count = both.1 }

pub returns : goal.returns
returns c =
    let args = c.args in
    let if1 = c.if-count-lt1 in
    let read-job = c.read_job in
    let check = c.check in
    let if2 = c.if-not-check in
    let band-rows = c.band_rows in
    let store = c.store in
    let g = args in
    let both = count_told g.«record».now g.count.now if1.false c.in-Some.job read-job.ensures c.in-Some.is _ check.ensures _ _ if2.false-raw
    band-rows.ensures store.ensures in
    record { number = both.0; count = both.1 }
