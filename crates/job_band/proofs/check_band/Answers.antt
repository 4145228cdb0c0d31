-- 6 and 17 are the first causes whose tests fail; behind them the number is that of an offer of the same rows. Assumes nothing.
use native.Mathlib.Omega.{arith}
use mathlib.Core.Path.{sym, ◌∙◌}
use Rattle.pixels.proofs.Causes.{first_at}
use Rattle.job.proofs.Views.{lawful_of_lem}
use Rattle.job_rules.proofs.Testing.{unlawful, lawful_test}
use Rattle.job_band.specs.Bands.{band_number}
use Rattle.job_band.proofs.Testing.{band_tests, stretch_wrong, stretch_right, band_bytes, told_of_offer}
use Rattle.job_band.proofs.check_band.Goals as goal

pub returns-then-not-lawful : goal.returns-then-not-lawful
unfolding band_number
returns-then-not-lawful c =
    let args = c.args in
    let check = c.check-lawful in
    let if1 = c.if-not-lawful in
    let j = args.j in
    sym (first_at (band_tests j args.bytes args.work) 0 tt (unlawful j.plan j.accepted j.taken j.flag _ check.ensures if1.true-raw))

pub band_of-requires : goal.band_of-requires
band_of-requires c =
    let args = c.args in
    let check = c.check-lawful in
    let if1 = c.if-not-lawful in
    let j = args.j in
    lawful_of_lem j (lawful_test j.plan j.accepted j.taken j.flag _ check.ensures if1.false-raw)

pub overflow_mul-band : goal.overflow_mul-band
overflow_mul-band c =
    let args = c.args in
    let check = c.check-lawful in
    let if1 = c.if-not-lawful in
    let row-bytes = c.row_bytes in
    let band-of = c.band_of in
    let j = args.j in
    let rules = lawful_of_lem j (lawful_test j.plan j.accepted j.taken j.flag _ check.ensures if1.false-raw) in
    omega (arith, band_bytes j _ _ rules row-bytes.ensures band-of.ensures)

pub returns-then-wrong_stretch : goal.returns-then-wrong_stretch
unfolding band_number
returns-then-wrong_stretch c =
    let args = c.args in
    let check = c.check-lawful in
    let if1 = c.if-not-lawful in
    let row-bytes = c.row_bytes in
    let band-of = c.band_of in
    let wrong-stretch = c.wrong_stretch in
    let if2 = c.if-wrong_stretch in
    let j = args.j in
    let law = lawful_test j.plan j.accepted j.taken j.flag _ check.ensures if1.false-raw in
    let wrong = stretch_wrong j.plan j.accepted args.bytes _ (rw (row-bytes.ensures, band-of.ensures)) (sym wrong-stretch.ensures ∙ if2.true) in
    sym (first_at (band_tests j args.bytes args.work) 1 (law, tt) wrong)

pub returns : goal.returns
returns c =
    let args = c.args in
    let check = c.check-lawful in
    let if1 = c.if-not-lawful in
    let row-bytes = c.row_bytes in
    let band-of = c.band_of in
    let wrong-stretch = c.wrong_stretch in
    let if2 = c.if-wrong_stretch in
    let check-offer = c.check_offer in
    let j = args.j in
    let law = lawful_test j.plan j.accepted j.taken j.flag _ check.ensures if1.false-raw in
    let right = stretch_right j.plan j.accepted args.bytes _ (rw (row-bytes.ensures, band-of.ensures)) (sym wrong-stretch.ensures ∙ if2.false) in
    told_of_offer j args.bytes args.work law right _ check-offer.ensures
