-- A length other than that of the whole pixels is told before anything is written. Assumes nothing.
use Rattle.pixels_layout.proofs.Packing.{unpack_refused, unpack_passes}
use Rattle.pixels.proofs.Numbers.{buffer_refused, buffer_written}
use Rattle.pixels.specs.declared.Refusal.TheVariants.{OutputLength}
use Rattle.pixels_layout.specs.Layout.{unpack_out}
use lib.ListN.{length}
use Rattle.pixels_packing.proofs.unpack_pixels.Goals as goal

pub returns-then-out-bytes : goal.returns-then-out-bytes
unfolding unpack_out
returns-then-out-bytes c = let a = c.args in
    let both = buffer_refused OutputLength _ _ _ (unpack_refused (length a.bytes.now) (length a.out.now) c.if-out-bytes.true) in
    record { number = both.0; out = both.1 }

pub returns : goal.returns
unfolding unpack_out
returns c = let a = c.args in
    let both = buffer_written _ _ _ (unpack_passes (length a.bytes.now) (length a.out.now) c.if-out-bytes.false) c.unpack_into.ensures in
    record { number = both.0; out = both.1 }
