-- Each return is the first cause whose test failed. Assumes nothing.
use borrow.Author.Tests.{le-leb, lt-leb}
use mathlib.Core.Path.{sym, ◌∙◌}
use native.Mathlib.Omega.{arith}
use Rattle.pixels.proofs.Causes.{first_at, first_none}
use Rattle.job_rules.proofs.Testing.{rows_empty, rows_ragged, rows_whole}
use Rattle.group_rules.specs.Group.{job_at, plan_at}
use Rattle.group_rules.specs.Tests.{group_offer_causes, group_offer_number}
use Rattle.group_rules.proofs.Lawful.{lawful_group}
use Rattle.group_tests.proofs.Testing.{row_some, unlawful, lawful_test, lawful_is, room_short, room_enough, ready_here}
use Rattle.group_tests.proofs.check_group_offer.Goals as goal

pub returns-then-not-check_group : goal.returns-then-not-check_group
unfolding group_offer_number
returns-then-not-check_group c =
    let a = c.args in
    sym (first_at (group_offer_causes a.g a.bytes a.work) 0 tt (unlawful a.g _ c.check_group.ensures c.if-not-check_group.true-raw))

pub returns-then-bytes-eq0 : goal.returns-then-bytes-eq0
unfolding group_offer_number
returns-then-bytes-eq0 c =
    let a = c.args in
    let law = lawful_test a.g _ c.check_group.ensures c.if-not-check_group.false-raw in
    sym (first_at (group_offer_causes a.g a.bytes a.work) 1 (law, tt) (rows_empty (plan_at a.g.jobs 0) a.bytes c.if-bytes-eq0.true))

pub nonzero_rem-bytes : goal.nonzero_rem-bytes
nonzero_rem-bytes c =
    let g = c.args.g in
    let group = lawful_group g (lawful_is g _ c.check_group.ensures c.if-not-check_group.false-raw) in
    let some = row_some (job_at g.jobs 0) (group.member 0 group.some).rules in
    omega (arith, c.row_bytes.ensures, some)

pub returns-then-bytes-row_bytes-ne0 : goal.returns-then-bytes-row_bytes-ne0
unfolding group_offer_number
returns-then-bytes-row_bytes-ne0 c =
    let a = c.args in
    let law = lawful_test a.g _ c.check_group.ensures c.if-not-check_group.false-raw in
    sym (first_at (group_offer_causes a.g a.bytes a.work) 1 (law, tt) (rows_ragged (plan_at a.g.jobs 0) a.bytes _ c.row_bytes.ensures c.if-bytes-eq0.false c.if-bytes-row_bytes-ne0.true))

pub returns-then-work-part_start : goal.returns-then-work-part_start
unfolding group_offer_number
returns-then-work-part_start c =
    let a = c.args in
    let law = lawful_test a.g _ c.check_group.ensures c.if-not-check_group.false-raw in
    let whole = rows_whole (plan_at a.g.jobs 0) a.bytes _ c.row_bytes.ensures c.if-bytes-eq0.false c.if-bytes-row_bytes-ne0.false in
    sym (first_at (group_offer_causes a.g a.bytes a.work) 2 (law, (whole, tt)) (room_short a.g a.work _ c.part_start.ensures c.if-work-part_start.true))

pub returns-then-some_ready : goal.returns-then-some_ready
unfolding group_offer_number
returns-then-some_ready c =
    let a = c.args in
    let law = lawful_test a.g _ c.check_group.ensures c.if-not-check_group.false-raw in
    let whole = rows_whole (plan_at a.g.jobs 0) a.bytes _ c.row_bytes.ensures c.if-bytes-eq0.false c.if-bytes-row_bytes-ne0.false in
    let room = room_enough a.g a.work _ c.part_start.ensures c.if-work-part_start.false in
    let all = ready_here a.g (lawful_is a.g _ c.check_group.ensures c.if-not-check_group.false-raw) _ in
    sym (first_at (group_offer_causes a.g a.bytes a.work) 3 (law, (whole, (room, tt))) (sym all ∙ sym c.some_ready.ensures ∙ c.if-some_ready.true))

pub returns-then-first : goal.returns-then-first
unfolding group_offer_number
returns-then-first c =
    let a = c.args in
    let law = lawful_test a.g _ c.check_group.ensures c.if-not-check_group.false-raw in
    let whole = rows_whole (plan_at a.g.jobs 0) a.bytes _ c.row_bytes.ensures c.if-bytes-eq0.false c.if-bytes-row_bytes-ne0.false in
    let room = room_enough a.g a.work _ c.part_start.ensures c.if-work-part_start.false in
    let all = ready_here a.g (lawful_is a.g _ c.check_group.ensures c.if-not-check_group.false-raw) _ in
    let quiet = sym all ∙ sym c.some_ready.ensures ∙ c.if-some_ready.false in
    sym (first_at (group_offer_causes a.g a.bytes a.work) 4 (law, (whole, (room, (quiet, tt)))) (le-leb _ _ c.if-first.true))

pub returns : goal.returns
unfolding group_offer_number
returns c =
    let a = c.args in
    let law = lawful_test a.g _ c.check_group.ensures c.if-not-check_group.false-raw in
    let whole = rows_whole (plan_at a.g.jobs 0) a.bytes _ c.row_bytes.ensures c.if-bytes-eq0.false c.if-bytes-row_bytes-ne0.false in
    let room = room_enough a.g a.work _ c.part_start.ensures c.if-work-part_start.false in
    let all = ready_here a.g (lawful_is a.g _ c.check_group.ensures c.if-not-check_group.false-raw) _ in
    let quiet = sym all ∙ sym c.some_ready.ensures ∙ c.if-some_ready.false in
    let left = lt-leb _ _ c.if-first.false in
    sym (first_none (group_offer_causes a.g a.bytes a.work) (law, (whole, (room, (quiet, (left, tt))))))
