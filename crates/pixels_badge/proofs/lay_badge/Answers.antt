-- A refusal is handed on with its number; else the background is laid on. Assumes nothing.
use Rattle.std.proofs.lemmas.Result.{err_from_is_err_and}
use mathlib.Core.Path.{sym}
use Rattle.pixels.proofs.Numbers.{buffer_refused, buffer_written}
use Rattle.pixels_badge.specs.Badge.{laid, badge_out}
use Rattle.pixels_badge.proofs.Fitting.{lay_fits}
use Rattle.pixels_badge.proofs.lay_badge.Goals as goal

pub returns-in_err-check_badge : goal.returns-in_err-check_badge
unfolding badge_out
returns-in_err-check_badge c =
    let p = err_from_is_err_and c.from_residual.result c.from_residual.ensures.1 in
    let a = c.args in
    let e = sym c.in_err-check_badge.ensures in
    let both = buffer_refused c.in_err-check_badge.field-0.0 _ (laid a.layout a.pixels.now a.badge_layout a.badge.now) a.pixels.now e in
    rw (p.1, p.2) (record { number = both.0; pixels = both.1 })

pub lay-requires : goal.lay-requires
lay-requires c =
    let a = c.args in
    let z = sym c.in_ok-check_badge.ensures in
    lay_fits a.size a.layout a.pixels.now a.badge_size a.badge.now z

pub returns : goal.returns
unfolding badge_out
returns c =
    let a = c.args in
    let z = sym c.in_ok-check_badge.ensures in
    let both = buffer_written _ (laid a.layout a.pixels.now a.badge_layout a.badge.now) a.pixels.now z c.lay.ensures in
    record { number = both.0; pixels = both.1 }
