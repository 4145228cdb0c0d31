-- Each return is the first cause whose test failed. Assumes nothing.
use borrow.Author.Tests.{le-leb, lt-leb}
use mathlib.Core.Path.{sym, ◌∙◌}
use native.Mathlib.Omega.{arith}
use Rattle.pixels.specs.declared.Refusal.TheVariants.{OutputLength, WorkLength, InvalidRecord, NoneReady, InvalidGroup}
use Rattle.pixels.proofs.Truths.{differ, same}
use Rattle.pixels.proofs.Causes.{first_at, first_none}
use Rattle.group_rules.specs.Tests.{group_take_causes, group_take_number}
use Rattle.group_rules.proofs.Lawful.{lawful_group}
use Rattle.group_tests.proofs.Testing.{unlawful, lawful_test, lawful_is, room_short, room_enough}
use Rattle.group_tests.proofs.Answering.{turned, went}
use Rattle.group_tests.proofs.check_group_take.Goals as goal

pub returns-then-not-check_group : goal.returns-then-not-check_group
unfolding group_take_number
returns-then-not-check_group c =
    let a = c.args in
    let both = turned InvalidRecord _ _ (first_at (group_take_causes a.g a.job a.bytes a.work) 0 tt (unlawful a.g _ c.check_group.ensures c.if-not-check_group.true-raw)) in
    record { number = both.0; place = both.1 }

pub returns-then-g-job : goal.returns-then-g-job
unfolding group_take_number
returns-then-g-job c =
    let a = c.args in
    let law = lawful_test a.g _ c.check_group.ensures c.if-not-check_group.false-raw in
    let both = turned InvalidGroup _ _ (first_at (group_take_causes a.g a.job a.bytes a.work) 1 (law, tt) (le-leb _ _ c.if-g-job.true)) in
    record { number = both.0; place = both.1 }

pub bounds-g-i : goal.bounds-g-i
bounds-g-i c =
    let g = c.args.g in
    omega (arith, (lawful_group g (lawful_is g _ c.check_group.ensures c.if-not-check_group.false-raw)).few)

pub returns-then-bytes-row_bytes : goal.returns-then-bytes-row_bytes
unfolding group_take_number
returns-then-bytes-row_bytes c =
    let a = c.args in
    let law = lawful_test a.g _ c.check_group.ensures c.if-not-check_group.false-raw in
    let named = lt-leb _ _ c.if-g-job.false in
    let both = turned OutputLength _ _ (first_at (group_take_causes a.g a.job a.bytes a.work) 2 (law, (named, tt)) (differ _ _ (λ e. c.if-bytes-row_bytes.true (e ∙ sym c.row_bytes.ensures)))) in
    record { number = both.0; place = both.1 }

pub returns-then-work-part_start : goal.returns-then-work-part_start
unfolding group_take_number
returns-then-work-part_start c =
    let a = c.args in
    let law = lawful_test a.g _ c.check_group.ensures c.if-not-check_group.false-raw in
    let named = lt-leb _ _ c.if-g-job.false in
    let exact = same _ _ (c.if-bytes-row_bytes.false ∙ c.row_bytes.ensures) in
    let both = turned WorkLength _ _ (first_at (group_take_causes a.g a.job a.bytes a.work) 3 (law, (named, (exact, tt))) (room_short a.g a.work _ c.part_start.ensures c.if-work-part_start.true)) in
    record { number = both.0; place = both.1 }

pub returns-then-made-j : goal.returns-then-made-j
unfolding group_take_number
returns-then-made-j c =
    let a = c.args in
    let law = lawful_test a.g _ c.check_group.ensures c.if-not-check_group.false-raw in
    let named = lt-leb _ _ c.if-g-job.false in
    let exact = same _ _ (c.if-bytes-row_bytes.false ∙ c.row_bytes.ensures) in
    let room = room_enough a.g a.work _ c.part_start.ensures c.if-work-part_start.false in
    let both = turned NoneReady _ _ (first_at (group_take_causes a.g a.job a.bytes a.work) 4 (law, (named, (exact, (room, tt)))) (le-leb _ _ (rw c.made.ensures at c.if-made-j.true))) in
    record { number = both.0; place = both.1 }

pub returns : goal.returns
unfolding group_take_number
returns c =
    let a = c.args in
    let law = lawful_test a.g _ c.check_group.ensures c.if-not-check_group.false-raw in
    let named = lt-leb _ _ c.if-g-job.false in
    let exact = same _ _ (c.if-bytes-row_bytes.false ∙ c.row_bytes.ensures) in
    let room = room_enough a.g a.work _ c.part_start.ensures c.if-work-part_start.false in
    let there = lt-leb _ _ (rw c.made.ensures at c.if-made-j.false) in
    let both = went _ _ _ (first_none (group_take_causes a.g a.job a.bytes a.work) (law, (named, (exact, (room, (there, tt)))))) c.part_start-2.ensures in
    record { number = both.0; place = both.1 }
