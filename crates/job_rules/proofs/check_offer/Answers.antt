-- Each return is the first cause whose test failed. Assumes nothing.
use mathlib.Core.Path.{sym, ◌∙◌}
use native.Mathlib.Nat.{mul-le-mul}
use native.Mathlib.Omega.{arith}
use borrow.Author.Tests.{not-false, le-leb, lt-leb}
use Rattle.pixels.proofs.Causes.{first_at, first_none}
use Rattle.job_rules.specs.Rules.{offer_causes, offer_number_of}
use Rattle.job_rules.proofs.Testing.{unlawful, lawful_test, rows_empty, rows_ragged, rows_whole, made_above, made_reached}
use Rattle.job_rules.proofs.Rules.{rules_of}
use Rattle.job_rules.proofs.KindRules.{lane_count}
use Rattle.job_rules.proofs.check_offer.Goals as goal

pub returns-then-not-check_rules : goal.returns-then-not-check_rules
unfolding offer_number_of
returns-then-not-check_rules c = let a = c.args in sym (first_at (offer_causes a.p a.accepted a.taken a.flag a.bytes a.work) 0 tt (unlawful a.p a.accepted a.taken a.flag _ c.check_rules.ensures c.if-not-check_rules.true-raw))

pub returns-then-bytes-eq0 : goal.returns-then-bytes-eq0
unfolding offer_number_of
returns-then-bytes-eq0 c =
    let a = c.args in
    let law = lawful_test a.p a.accepted a.taken a.flag _ c.check_rules.ensures c.if-not-check_rules.false-raw in
    sym (first_at (offer_causes a.p a.accepted a.taken a.flag a.bytes a.work) 1 (law, tt) (rows_empty a.p a.bytes c.if-bytes-eq0.true))

pub nonzero_rem-bytes : goal.nonzero_rem-bytes
nonzero_rem-bytes c =
    let a = c.args in
    let law = sym c.check_rules.ensures ∙ not-false _ c.if-not-check_rules.false-raw in
    let rules = rules_of a.p a.accepted a.taken a.flag law in
    let lanes = (lane_count _ _ _ _ rules.kind_fitting).some in
    omega (arith, c.row_bytes.ensures, mul-le-mul lanes rules.sizes.source_width.some)

pub returns-then-bytes-row_bytes-ne0 : goal.returns-then-bytes-row_bytes-ne0
unfolding offer_number_of
returns-then-bytes-row_bytes-ne0 c =
    let a = c.args in
    let law = lawful_test a.p a.accepted a.taken a.flag _ c.check_rules.ensures c.if-not-check_rules.false-raw in
    sym (first_at (offer_causes a.p a.accepted a.taken a.flag a.bytes a.work) 1 (law, tt) (rows_ragged a.p a.bytes _ c.row_bytes.ensures c.if-bytes-eq0.false c.if-bytes-row_bytes-ne0.true))

pub returns-then-short_work : goal.returns-then-short_work
unfolding offer_number_of
returns-then-short_work c =
    let a = c.args in
    let law = lawful_test a.p a.accepted a.taken a.flag _ c.check_rules.ensures c.if-not-check_rules.false-raw in
    let whole = rows_whole a.p a.bytes _ c.row_bytes.ensures c.if-bytes-eq0.false c.if-bytes-row_bytes-ne0.false in
    sym (first_at (offer_causes a.p a.accepted a.taken a.flag a.bytes a.work) 2 (law, (whole, tt)) (sym c.short_work.ensures ∙ c.if-short_work.true))

pub returns-then-taken-made : goal.returns-then-taken-made
unfolding offer_number_of
returns-then-taken-made c =
    let a = c.args in
    let law = lawful_test a.p a.accepted a.taken a.flag _ c.check_rules.ensures c.if-not-check_rules.false-raw in
    let whole = rows_whole a.p a.bytes _ c.row_bytes.ensures c.if-bytes-eq0.false c.if-bytes-row_bytes-ne0.false in
    let room = sym c.short_work.ensures ∙ c.if-short_work.false in
    sym (first_at (offer_causes a.p a.accepted a.taken a.flag a.bytes a.work) 3 (law, (whole, (room, tt))) (made_above a.p a.accepted a.taken a.flag _ c.made.ensures c.if-taken-made.true))

pub returns-then-p-accepted : goal.returns-then-p-accepted
unfolding offer_number_of
returns-then-p-accepted c =
    let a = c.args in
    let law = lawful_test a.p a.accepted a.taken a.flag _ c.check_rules.ensures c.if-not-check_rules.false-raw in
    let whole = rows_whole a.p a.bytes _ c.row_bytes.ensures c.if-bytes-eq0.false c.if-bytes-row_bytes-ne0.false in
    let room = sym c.short_work.ensures ∙ c.if-short_work.false in
    let quiet = made_reached a.p a.accepted a.taken a.flag _ c.made.ensures c.if-taken-made.false in
    sym (first_at (offer_causes a.p a.accepted a.taken a.flag a.bytes a.work) 4 (law, (whole, (room, (quiet, tt)))) (le-leb _ _ c.if-p-accepted.true))

pub returns : goal.returns
unfolding offer_number_of
returns c =
    let a = c.args in
    let law = lawful_test a.p a.accepted a.taken a.flag _ c.check_rules.ensures c.if-not-check_rules.false-raw in
    let whole = rows_whole a.p a.bytes _ c.row_bytes.ensures c.if-bytes-eq0.false c.if-bytes-row_bytes-ne0.false in
    let room = sym c.short_work.ensures ∙ c.if-short_work.false in
    let quiet = made_reached a.p a.accepted a.taken a.flag _ c.made.ensures c.if-taken-made.false in
    sym (first_none (offer_causes a.p a.accepted a.taken a.flag a.bytes a.work) (law, (whole, (room, (quiet, (lt-leb _ _ c.if-p-accepted.false, tt))))))
