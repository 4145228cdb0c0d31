-- `add_halves`: too few work values are told; else there is room for both halves. Assumes nothing.
use Rattle.std.proofs.Common.{length, arith}
use Rattle.pixels.specs.declared.Refusal.TheVariants.{WorkLength}
use Rattle.pixels.proofs.Numbers.{buffer_refused, buffer_written}
use Rattle.rows_adding.specs.Adding.{add_work}
use Rattle.rows_adding.proofs.Adding.{add_fits, add_short}
use Rattle.rows_adding.proofs.add_halves.Goals as goal

pub returns-then-work-w : goal.returns-then-work-w
unfolding add_work
returns-then-work-w c = let a = c.args in
    let both = buffer_refused WorkLength _ _ _ (add_short a.w (length a.work.now) (omega (arith, c.if-work-w.true))) in
    record { number = both.0; work = both.1 }

pub returns : goal.returns
unfolding add_work
returns c = let a = c.args in
    let both = buffer_written _ _ _ (add_fits a.w (length a.work.now) (omega (arith, c.if-work-w.false))) c.add_to_first.ensures in
    record { number = both.0; work = both.1 }
