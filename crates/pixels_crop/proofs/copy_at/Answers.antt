-- The invariant: the buffer with the source's first i bytes pasted in. Assumes nothing.
use native.Mathlib.Numerals.{add-one}
use mathlib.Core.List.{append_assoc}
use lib.Seq.{paste-zero, paste-suc, take-length}
use lib.ListN.{length, take, drop, length-set}
use native.Mathlib.Omega.{arith}
use mathlib.Core.Path.{◌≡◌, refl, ◌∙◌}
use Prim.Native.Nat.{◌<◌, ◌+◌}
use Rattle.pixels_crop.proofs.copy_at.Goals as goal

pub loop-i-init : goal.loop-i-init
loop-i-init c = let g = c.args in (refl, paste-zero g.out.now g.at g.src.now)

pub loop-i-preserved : goal.loop-i-preserved
loop-i-preserved c =
    let g = c.args in
    let l = c.loop-i in
    let h : g.at + l.i < length g.out.now = omega arith in
    (simp length-set l.invariant.0, rw (l.invariant.1, add-one) (paste-suc g.out.now g.at g.src.now l.i 0 h (omega arith)))

pub shape_of-out : goal.shape_of-out
shape_of-out c = c.loop-i.invariant.0

pub returns : goal.returns
returns c =
    let g = c.args in
    let e : c.loop-i.i ≡ length g.src.now = omega arith in
    (rw (e, take-length) at c.loop-i.invariant.1) ∙ append_assoc (take g.at g.out.now) g.src.now (drop (g.at + length g.src.now) g.out.now)
