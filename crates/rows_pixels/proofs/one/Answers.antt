-- `one`: what is read is toned_at by definition. Assumes nothing.
use Rattle.std.proofs.Common.{ℕ, ◌≡◌, ◌+◌, ◌*◌, get_or, ap, ◌∙◌, arith}
use Rattle.rows.specs.Inner.Import.{byte_at}
use Rattle.rows.specs.Tones.{toned, toned_at}
use Rattle.rows_pixels.proofs.one.Goals as goal

pub returns : goal.returns
unfolding toned_at byte_at
returns c =
    let a = c.args in
    let s = a.row.now in
    let own = a.alpha.own_is in
    let by : ℕ = byte_at s a.alpha.place a.x in
    let first : 4 * a.x ≡ 4 * a.x + 0 = omega arith in
    record {
      l0 = c.tone.ensures ∙ ap (λ (i : ℕ). toned (get_or s i 0) by a.alpha.own.a) first ∙ ap (toned (byte_at s 0 a.x) by) own.l0;
      l1 = c.tone-2.ensures ∙ ap (toned (byte_at s 1 a.x) by) own.l1;
      l2 = c.tone-3.ensures ∙ ap (toned (byte_at s 2 a.x) by) own.l2;
      l3 = c.tone-4.ensures ∙ ap (toned (byte_at s 3 a.x) by) own.l3;
    }
