-- One cause after the other: those before it pass, it applies. Assumes nothing.
use borrow.Author.Tests.{eq-eqb, ne_eqb}
use mathlib.Core.Bool.{false, true, not}
use mathlib.Core.Path.{◌≡◌, sym, ◌∙◌, ap}
use Rattle.std.proofs.lemmas.Result.{err_from_is_err_and}
use Rattle.pam_header.specs.Inner.{key_missing, other_kind}
use Rattle.pam_header.proofs.Verdicts.{none_given, other, wrong, picture, same_types}
use Rattle.pam_header.proofs.verdict.Goals as goal
use Rattle.pam_header.proofs.verdict.Goals.{then-depth-ne-DEPTH-via-then-depth-ne-DEPTH, then-depth-ne-DEPTH-via-else-depth-ne-DEPTH+then-maxval-ne-MAXVAL, then-depth-ne-DEPTH-via-else-depth-ne-DEPTH+else-maxval-ne-MAXVAL+then-ne}

pub returns-in_err-width : goal.returns-in_err-width
returns-in_err-width c =
    let e = c.in_err-width.ensures in
    let r = c.from_residual in
    none_given c.args.t c.args.start c.args.t.width _ r.result e.ok_part e.value (err_from_is_err_and r.result r.ensures.1) (simp e.ok_part)

pub returns-in_err-height : goal.returns-in_err-height
returns-in_err-height c =
    let e = c.in_err-height.ensures in
    let r = c.from_residual-in_err-height in
    none_given c.args.t c.args.start c.args.t.height _ r.result e.ok_part e.value (err_from_is_err_and r.result r.ensures.1) (simp (c.in_ok-width.ensures.ok_part, e.ok_part))

pub returns-in_err-depth : goal.returns-in_err-depth
returns-in_err-depth c =
    let e = c.in_err-depth.ensures in
    let r = c.from_residual-in_err-depth in
    none_given c.args.t c.args.start c.args.t.depth _ r.result e.ok_part e.value (err_from_is_err_and r.result r.ensures.1) (simp (c.in_ok-width.ensures.ok_part, c.in_ok-height.ensures.ok_part, e.ok_part))

pub returns-in_err-maxval : goal.returns-in_err-maxval
returns-in_err-maxval c =
    let e = c.in_err-maxval.ensures in
    let r = c.from_residual-in_err-maxval in
    none_given c.args.t c.args.start c.args.t.maxval _ r.result e.ok_part e.value (err_from_is_err_and r.result r.ensures.1) (simp (c.in_ok-width.ensures.ok_part, c.in_ok-height.ensures.ok_part, c.in_ok-depth.ensures.ok_part, e.ok_part))

pub returns-then-depth-ne-DEPTH : goal.returns-then-depth-ne-DEPTH
returns-then-depth-ne-DEPTH c =
    let t = c.args.t in
    let d = c.in_ok-depth.ensures.ok_part in
    let m = c.in_ok-maxval.ensures.ok_part in
    let all : key_missing t ≡ false = simp (c.in_ok-width.ensures.ok_part, c.in_ok-height.ensures.ok_part, d, m) in
    let kind : other_kind t ≡ true =
    elim c.then-depth-ne-DEPTH.branch [
      | then-depth-ne-DEPTH-via-then-depth-ne-DEPTH w ↦ simp (d, ne_eqb _ 4 w.if-depth-ne-DEPTH.true)
      | then-depth-ne-DEPTH-via-else-depth-ne-DEPTH+then-maxval-ne-MAXVAL w ↦ simp (d, m, eq-eqb _ 4 w.if-depth-ne-DEPTH.false, ne_eqb _ 255 w.if-maxval-ne-MAXVAL.true)
      | then-depth-ne-DEPTH-via-else-depth-ne-DEPTH+else-maxval-ne-MAXVAL+then-ne w ↦ simp (d, m, eq-eqb _ 4 w.if-depth-ne-DEPTH.false, eq-eqb _ 255 w.if-maxval-ne-MAXVAL.false) (sym (ap not (same_types t.types)) ∙ sym w.ne.ensures ∙ w.if-ne.true)
    ] in
    other t c.args.start all kind

pub returns-then-bad_size : goal.returns-then-bad_size
returns-then-bad_size c =
    let t = c.args.t in
    let w = c.in_ok-width.ensures.ok_part in
    let h = c.in_ok-height.ensures.ok_part in
    let d = c.in_ok-depth.ensures.ok_part in
    let m = c.in_ok-maxval.ensures.ok_part in
    let all : key_missing t ≡ false = simp (w, h, d, m) in
    let kind : other_kind t ≡ false = simp (d, m, eq-eqb _ 4 c.if-depth-ne-DEPTH.false, eq-eqb _ 255 c.if-maxval-ne-MAXVAL.false) (sym (ap not (same_types t.types)) ∙ sym c.ne.ensures ∙ c.if-ne.false) in
    wrong t c.args.start all kind _ (simp (w, h)) (sym c.bad_size.ensures ∙ c.if-bad_size.true)

pub returns : goal.returns
returns c =
    let t = c.args.t in
    let w = c.in_ok-width.ensures.ok_part in
    let h = c.in_ok-height.ensures.ok_part in
    let d = c.in_ok-depth.ensures.ok_part in
    let m = c.in_ok-maxval.ensures.ok_part in
    let all : key_missing t ≡ false = simp (w, h, d, m) in
    let kind : other_kind t ≡ false = simp (d, m, eq-eqb _ 4 c.if-depth-ne-DEPTH.false, eq-eqb _ 255 c.if-maxval-ne-MAXVAL.false) (sym (ap not (same_types t.types)) ∙ sym c.ne.ensures ∙ c.if-ne.false) in
    picture t c.args.start all kind _ (simp (w, h)) (sym c.bad_size.ensures ∙ c.if-bad_size.false)
