-- The invariant: the windows of the rows passed, joined, then the buffer as it was. Assumes nothing.
use Rattle.pixels_crop.proofs.Windows.{row_fits, row_part, stripe_length, rows_none, rows_turn, rows_done}
use Rattle.pixels_crop.specs.Crop.{window_of, picture_row}
use Rattle.pixels.specs.Sizes.{pixel_lanes}
use lib.ListN.{length}
use native.Mathlib.Nat.{mul-le-mul_left}
use native.Mathlib.Omega.{arith}
use mathlib.Core.Path.{◌≡◌, refl, ap, ◌∙◌}
use Prim.Native.Nat.{◌≤◌, ◌+◌, ◌*◌}
use Rattle.pixels_crop.proofs.crop_into.Goals as goal

pub loop-i-init : goal.loop-i-init
loop-i-init c = let p = c.requires in (refl, rows_none c.args.source c.args.rect c.args.pixels.now p.0 p.1 c.args.out.now)

pub overflow_mul-at : goal.overflow_mul-at
overflow_mul-at c =
    let a = c.args in
    omega (arith, row_fits pixel_lanes a.pixels.now a.source.width a.source.height (a.rect.y + c.loop-i.i) c.requires.1 (omega (arith, c.requires.0)))

pub overflow_mul-to : goal.overflow_mul-to
overflow_mul-to c = omega arith

pub overflow_mul-to-in-loop-i : goal.overflow_mul-to-in-loop-i
overflow_mul-to-in-loop-i c =
    let a = c.args in
    let p = c.requires in
    let h : c.loop-i.i ≤ a.rect.height = omega arith in
    omega (arith, mul-le-mul_left (4 * a.rect.width) h)

pub overflow_add-at-in-loop-i : goal.overflow_add-at-in-loop-i
overflow_add-at-in-loop-i c =
    let a = c.args in
    omega (arith, row_fits pixel_lanes a.pixels.now a.source.width a.source.height (a.rect.y + c.loop-i.i) c.requires.1 (omega (arith, c.requires.0)))

pub slice_bounds-window-end : goal.slice_bounds-window-end
slice_bounds-window-end c =
    let a = c.args in
    omega (arith, row_fits pixel_lanes a.pixels.now a.source.width a.source.height (a.rect.y + c.loop-i.i) c.requires.1 (omega (arith, c.requires.0)))

pub copy_at-requires : goal.copy_at-requires
copy_at-requires c =
    let a = c.args in
    let p = c.requires in
    let i = c.loop-i.i in
    let s = c.window.ensures ∙ ap (λ r. window_of pixel_lanes r a.rect.x a.rect.width) (row_part pixel_lanes a.pixels.now a.source.width (a.rect.y + i)) in
    let n = ap length s ∙ stripe_length a.source a.rect a.pixels.now p.0 p.1 i (omega arith) in
    let h : i + 1 ≤ a.rect.height = omega arith in
    omega (arith, mul-le-mul_left (4 * a.rect.width) h)

pub loop-i-preserved : goal.loop-i-preserved
loop-i-preserved c =
    let a = c.args in
    let l = c.loop-i in
    let p = c.requires in
    let i = l.i in
    let row = a.rect.y + i in
    let s : c.window.result.now ≡ window_of pixel_lanes (picture_row pixel_lanes a.pixels.now a.source.width row) a.rect.x a.rect.width =
    c.window.ensures ∙ ap (λ r. window_of pixel_lanes r a.rect.x a.rect.width) (row_part pixel_lanes a.pixels.now a.source.width row) in
    let copied = c.copy_at in
    (copied.auto.out ∙ l.invariant.0, copied.ensures ∙ rw s (rows_turn a.source a.rect a.pixels.now p.0 p.1 l.out a.out.now i (omega arith) l.invariant.1))

pub shape_of-out : goal.shape_of-out
shape_of-out c = c.loop-i.invariant.0

pub returns : goal.returns
returns c =
    let a = c.args in
    let p = c.requires in
    let e : c.loop-i.i ≡ a.rect.height = omega arith in
    rows_done a.source a.rect a.pixels.now p.0 p.1 c.loop-i.out a.out.now p.2 (rw e at c.loop-i.invariant.1)
