-- The invariant, byte by byte: the pixels passed have the plane's alpha, all else stays. Assumes nothing.
use Rattle.pixels_alpha.proofs.Planes.{partly}
use Rattle.pixels_alpha.proofs.Planes.{partly}
use lib.ListN.{length, get_or}
use mathlib.Core.Path.{◌≡◌}
use Prim.Native.Nat.{ℕ, ◌≤◌, ◌-◌}
use Rattle.pixels_alpha.proofs.put_alpha.Given as goal

abbrev pub invariant-loop-i : goal.invariant-loop-i
invariant-loop-i l = (length l.pixels ≡ length l.initial.pixels) × ((x : ℕ) → get_or l.pixels x 0 ≡ partly l.alpha l.initial.pixels l.plane l.i x)
