-- Each return is the first cause whose test failed. Assumes nothing.
use mathlib.Core.Path.{sym, ◌∙◌}
use borrow.Author.Tests.{le-leb, lt-leb}
use Rattle.pixels.proofs.Causes.{first_at, first_none}
use Rattle.pixels.proofs.Truths.{differ, same}
use Rattle.job_rules.specs.Rules.{take_causes, take_number_of}
use Rattle.job_rules.proofs.Testing.{unlawful, lawful_test}
use Rattle.job_rules.proofs.check_take.Goals as goal

pub returns-then-not-check_rules : goal.returns-then-not-check_rules
unfolding take_number_of
returns-then-not-check_rules c = let a = c.args in sym (first_at (take_causes a.p a.accepted a.taken a.flag a.bytes a.work) 0 tt (unlawful a.p a.accepted a.taken a.flag _ c.check_rules.ensures c.if-not-check_rules.true-raw))

pub returns-then-bytes-row_bytes : goal.returns-then-bytes-row_bytes
unfolding take_number_of
returns-then-bytes-row_bytes c =
    let a = c.args in
    let law = lawful_test a.p a.accepted a.taken a.flag _ c.check_rules.ensures c.if-not-check_rules.false-raw in
    sym (first_at (take_causes a.p a.accepted a.taken a.flag a.bytes a.work) 1 (law, tt) (differ _ _ (rw c.row_bytes.ensures at c.if-bytes-row_bytes.true)))

pub returns-then-short_work : goal.returns-then-short_work
unfolding take_number_of
returns-then-short_work c =
    let a = c.args in
    let law = lawful_test a.p a.accepted a.taken a.flag _ c.check_rules.ensures c.if-not-check_rules.false-raw in
    let exact = same _ _ (c.if-bytes-row_bytes.false ∙ c.row_bytes.ensures) in
    sym (first_at (take_causes a.p a.accepted a.taken a.flag a.bytes a.work) 2 (law, (exact, tt)) (sym c.short_work.ensures ∙ c.if-short_work.true))

pub returns-then-made-taken : goal.returns-then-made-taken
unfolding take_number_of
returns-then-made-taken c =
    let a = c.args in
    let law = lawful_test a.p a.accepted a.taken a.flag _ c.check_rules.ensures c.if-not-check_rules.false-raw in
    let exact = same _ _ (c.if-bytes-row_bytes.false ∙ c.row_bytes.ensures) in
    let room = sym c.short_work.ensures ∙ c.if-short_work.false in
    sym (first_at (take_causes a.p a.accepted a.taken a.flag a.bytes a.work) 3 (law, (exact, (room, tt))) (le-leb _ _ (rw c.made.ensures at c.if-made-taken.true)))

pub returns : goal.returns
unfolding take_number_of
returns c =
    let a = c.args in
    let law = lawful_test a.p a.accepted a.taken a.flag _ c.check_rules.ensures c.if-not-check_rules.false-raw in
    let exact = same _ _ (c.if-bytes-row_bytes.false ∙ c.row_bytes.ensures) in
    let room = sym c.short_work.ensures ∙ c.if-short_work.false in
    sym (first_none (take_causes a.p a.accepted a.taken a.flag a.bytes a.work) (law, (exact, (room, (lt-leb _ _ (rw c.made.ensures at c.if-made-taken.false), tt)))))
