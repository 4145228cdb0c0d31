-- A job with a row ready is left; else all rows that remain are offered. Assumes nothing.
use Prim.Native.Nat.{ℕ, ◌*◌}
use mathlib.Core.Path.{ap}
use native.Mathlib.Omega.{arith}
use Rattle.job_resize.proofs.Turning.{feed_keeps, feed_offers, rest_all}
use Rattle.job_resize.proofs.feed.Goals as goal

pub returns-then-ready-ne0 : goal.returns-then-ready-ne0
returns-then-ready-ne0 c = let a = c.args in
    let both = feed_keeps a.job a.pixels.now a.work.now _ c.ready.ensures c.if-ready-ne0.true in
    record { job = both.0; work = both.1 }

pub overflow_mul-at : goal.overflow_mul-at
overflow_mul-at c = let a = c.args in omega (arith, ap (λ (t : ℕ). t * a.job.accepted) c.row_bytes.ensures, c.requires, c.well_formed.1.0.0)

pub slice_bounds-offer-count : goal.slice_bounds-offer-count
slice_bounds-offer-count c = let a = c.args in omega (arith, ap (λ (t : ℕ). t * a.job.accepted) c.row_bytes.ensures, c.requires)

pub slice_bounds-offer-start : goal.slice_bounds-offer-start
slice_bounds-offer-start c = let a = c.args in omega (arith, ap (λ (t : ℕ). t * a.job.accepted) c.row_bytes.ensures, c.requires)

pub returns : goal.returns
returns c =
    let a = c.args in
    let offered = rw c.row_bytes.ensures at c.offer.ensures in
    let both = feed_offers a.job a.pixels.now a.work.now _ c.ready.ensures c.if-ready-ne0.false _ (rest_all _ a.pixels.now) _ offered.job _ offered.work in
    record { job = both.0; work = both.1 }
