-- A length other than the lanes times the pixels is told before anything is written. Assumes nothing.
use Rattle.pixels_layout.proofs.Packing.{pack_refused, pack_passes}
use Rattle.pixels.proofs.Numbers.{buffer_refused, buffer_written}
use Rattle.pixels.specs.declared.Refusal.TheVariants.{OutputLength}
use Rattle.pixels_layout.specs.Layout.{pack_out}
use lib.ListN.{length}
use native.Mathlib.Omega.{arith}
use Rattle.pixels_packing.proofs.pack_pixels.Goals as goal

pub returns-then-out-ne0 : goal.returns-then-out-ne0
unfolding pack_out
returns-then-out-ne0 c = let a = c.args in
    let both = buffer_refused OutputLength _ _ _ (pack_refused (length a.argb.now) (length a.out.now) (λ e. c.if-out-ne0.true (omega arith))) in
    record { number = both.0; out = both.1 }

pub returns-then-out-argb : goal.returns-then-out-argb
unfolding pack_out
returns-then-out-argb c = let a = c.args in
    let both = buffer_refused OutputLength _ _ _ (pack_refused (length a.argb.now) (length a.out.now) (λ e. c.if-out-argb.true (omega arith))) in
    record { number = both.0; out = both.1 }

pub returns : goal.returns
unfolding pack_out
returns c =
    let a = c.args in
    let fits = pack_passes (length a.argb.now) (length a.out.now) (omega (arith, c.if-out-ne0.false, c.if-out-argb.false)) in
    let both = buffer_written _ _ _ fits c.pack_into.ensures in
    record { number = both.0; out = both.1 }
