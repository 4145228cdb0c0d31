-- The invariant: the buffer with the first i bytes of the text pasted in. Assumes nothing.
use native.Mathlib.Numerals.{add-one}
use native.Mathlib.Omega.{arith}
use mathlib.Core.List.{append_assoc}
use mathlib.Core.Path.{◌≡◌, refl, sym, ◌∙◌}
use Prim.Native.Nat.{◌<◌, ◌+◌}
use lib.Seq.{paste-zero, paste-suc, take-length}
use lib.ListN.{length, take, drop, length-set}
use Rattle.pam_put.proofs.Putting.{put_fits, put_not}
use Rattle.pam_put.proofs.put.Goals as goal

pub returns-else-place-out : goal.returns-else-place-out
returns-else-place-out c =
    let g = c.args in
    sym (put_not g.out.now g.place g.text.now (omega arith))

pub loop-i-init : goal.loop-i-init
loop-i-init c =
    let g = c.args in
    (refl, paste-zero g.out.now g.place g.text.now)

pub loop-i-preserved : goal.loop-i-preserved
loop-i-preserved c =
    let g = c.args in
    let l = c.loop-i in
    let h : g.place + l.i < length g.out.now = omega arith in
    (simp length-set l.invariant.0, rw (l.invariant.1, add-one) (paste-suc g.out.now g.place g.text.now l.i 0 h (omega arith)))

pub shape_of-out : goal.shape_of-out
shape_of-out c = c.loop-i.invariant.0

pub returns-after-loop-i : goal.returns-after-loop-i
returns-after-loop-i c =
    let g = c.args in
    let e : c.loop-i.i ≡ length g.text.now = omega arith in
    let whole = append_assoc (take g.place g.out.now) g.text.now (drop (g.place + length g.text.now) g.out.now) in
    (rw (e, take-length) at c.loop-i.invariant.1) ∙ whole ∙ sym (put_fits g.out.now g.place g.text.now (omega arith))
