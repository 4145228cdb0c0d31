-- Each return is the first cause whose test failed. Assumes nothing.
use borrow.Author.Tests.{lt-ltb, le-ltb}
use Rattle.pixels.specs.declared.Refusal.TheVariants.{InvalidDimensions, CropOutOfBounds, WorkLength, InvalidLanes, InvalidGroup, GroupTooLarge}
use Rattle.pixels.proofs.Causes.{first_at, first_none}
use Rattle.group_rules.specs.Group.{differing, looked, fresh_jobs}
use Rattle.group_rules.specs.Tests.{start_causes, group_start_number}
use Rattle.group_rules.proofs.Forming.{group_fresh}
use Rattle.group_tests.proofs.Answering.{turned, went}
use Rattle.group_start.proofs.Starting.{wrong, laneless, beyond, told, need_told}
use Rattle.group_start.proofs.check_group_start.Goals as goal

pub returns-then-some_wrong : goal.returns-then-some_wrong
unfolding group_start_number
returns-then-some_wrong c =
    let a = c.args in
    let is = c.group_of-g.ensures in
    let both = turned InvalidDimensions _ _ (first_at (start_causes (fresh_jobs a.plans (looked a.count)) (looked a.count) a.count a.work) 0 tt (told a.plans a.count _ is wrong _ _ c.some_wrong.ensures c.if-some_wrong.true)) in
    record { number = both.0; place = both.1 }

pub returns-then-some_lanes : goal.returns-then-some_lanes
unfolding group_start_number
returns-then-some_lanes c =
    let a = c.args in
    let is = c.group_of-g.ensures in
    let sizes = told a.plans a.count _ is wrong _ _ c.some_wrong.ensures c.if-some_wrong.false in
    let both = turned InvalidLanes _ _ (first_at (start_causes (fresh_jobs a.plans (looked a.count)) (looked a.count) a.count a.work) 1 (sizes, tt) (told a.plans a.count _ is laneless _ _ c.some_lanes.ensures c.if-some_lanes.true)) in
    record { number = both.0; place = both.1 }

pub returns-then-some_beyond : goal.returns-then-some_beyond
unfolding group_start_number
returns-then-some_beyond c =
    let a = c.args in
    let is = c.group_of-g.ensures in
    let sizes = told a.plans a.count _ is wrong _ _ c.some_wrong.ensures c.if-some_wrong.false in
    let lanes = told a.plans a.count _ is laneless _ _ c.some_lanes.ensures c.if-some_lanes.false in
    let both = turned CropOutOfBounds _ _ (first_at (start_causes (fresh_jobs a.plans (looked a.count)) (looked a.count) a.count a.work) 2 (sizes, (lanes, tt)) (told a.plans a.count _ is beyond _ _ c.some_beyond.ensures c.if-some_beyond.true)) in
    record { number = both.0; place = both.1 }

pub returns-then-jobs_differ : goal.returns-then-jobs_differ
unfolding group_start_number
returns-then-jobs_differ c =
    let a = c.args in
    let is = c.group_of-g.ensures in
    let sizes = told a.plans a.count _ is wrong _ _ c.some_wrong.ensures c.if-some_wrong.false in
    let lanes = told a.plans a.count _ is laneless _ _ c.some_lanes.ensures c.if-some_lanes.false in
    let inside = told a.plans a.count _ is beyond _ _ c.some_beyond.ensures c.if-some_beyond.false in
    let both = turned InvalidGroup _ _ (first_at (start_causes (fresh_jobs a.plans (looked a.count)) (looked a.count) a.count a.work) 3 (sizes, (lanes, (inside, tt))) (told a.plans a.count _ is differing _ _ c.jobs_differ.ensures c.if-jobs_differ.true)) in
    record { number = both.0; place = both.1 }

pub returns-then-count-gt-GROUP_LIMIT : goal.returns-then-count-gt-GROUP_LIMIT
unfolding group_start_number
returns-then-count-gt-GROUP_LIMIT c =
    let a = c.args in
    let is = c.group_of-g.ensures in
    let sizes = told a.plans a.count _ is wrong _ _ c.some_wrong.ensures c.if-some_wrong.false in
    let lanes = told a.plans a.count _ is laneless _ _ c.some_lanes.ensures c.if-some_lanes.false in
    let inside = told a.plans a.count _ is beyond _ _ c.some_beyond.ensures c.if-some_beyond.false in
    let alike = told a.plans a.count _ is differing _ _ c.jobs_differ.ensures c.if-jobs_differ.false in
    let both = turned GroupTooLarge _ _ (first_at (start_causes (fresh_jobs a.plans (looked a.count)) (looked a.count) a.count a.work) 4 (sizes, (lanes, (inside, (alike, tt)))) (lt-ltb _ _ c.if-count-gt-GROUP_LIMIT.true)) in
    record { number = both.0; place = both.1 }

pub returns-then-work-end : goal.returns-then-work-end
unfolding group_start_number
returns-then-work-end c =
    let a = c.args in
    let is = c.group_of-g.ensures in
    let sizes = told a.plans a.count _ is wrong _ _ c.some_wrong.ensures c.if-some_wrong.false in
    let lanes = told a.plans a.count _ is laneless _ _ c.some_lanes.ensures c.if-some_lanes.false in
    let inside = told a.plans a.count _ is beyond _ _ c.some_beyond.ensures c.if-some_beyond.false in
    let alike = told a.plans a.count _ is differing _ _ c.jobs_differ.ensures c.if-jobs_differ.false in
    let few = le-ltb _ _ c.if-count-gt-GROUP_LIMIT.false in
    let lawful = group_fresh a.plans a.count sizes lanes inside alike in
    let end = need_told a.plans a.count _ is lawful _ c.group_need-end.ensures in
    let both = turned WorkLength _ _ (first_at (start_causes (fresh_jobs a.plans (looked a.count)) (looked a.count) a.count a.work) 5 (sizes, (lanes, (inside, (alike, (few, tt))))) (lt-ltb _ _ (rw end at c.if-work-end.true))) in
    record { number = both.0; place = both.1 }

pub returns : goal.returns
unfolding group_start_number
returns c =
    let a = c.args in
    let is = c.group_of-g.ensures in
    let sizes = told a.plans a.count _ is wrong _ _ c.some_wrong.ensures c.if-some_wrong.false in
    let lanes = told a.plans a.count _ is laneless _ _ c.some_lanes.ensures c.if-some_lanes.false in
    let inside = told a.plans a.count _ is beyond _ _ c.some_beyond.ensures c.if-some_beyond.false in
    let alike = told a.plans a.count _ is differing _ _ c.jobs_differ.ensures c.if-jobs_differ.false in
    let few = le-ltb _ _ c.if-count-gt-GROUP_LIMIT.false in
    let lawful = group_fresh a.plans a.count sizes lanes inside alike in
    let end = need_told a.plans a.count _ is lawful _ c.group_need-end.ensures in
    let room = le-ltb _ _ (rw end at c.if-work-end.false) in
    let both = went _ _ _ (first_none (start_causes (fresh_jobs a.plans (looked a.count)) (looked a.count) a.count a.work) (sizes, (lanes, (inside, (alike, (few, (room, tt))))))) end in
    record { number = both.0; place = both.1 }
