-- Each turn lays the next block. Assumes nothing.
use Prim.Native.Nat.{◌*◌, min}
use Rattle.pixels_badge.specs.Inner.{block_bytes}
use Rattle.pixels_badge.proofs.LaidBlocks.{Covering}
use Rattle.pixels_badge.proofs.lay.Given as goal

abbrev pub invariant-loop-block : goal.invariant-loop-block
invariant-loop-block l = Covering l.layout l.initial.pixels l.from l.badge l.pixels l.alphas l.colours (min l.n (block_bytes * l.block))
