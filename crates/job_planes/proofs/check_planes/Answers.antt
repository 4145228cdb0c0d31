-- `check_planes`: the tests before a return passed and its own did not, so the number is its. Assumes nothing.
use mathlib.Core.Path.{sym, ◌∙◌}
use Rattle.pixels.proofs.Causes.{first_at, first_none}
use Rattle.job_planes.specs.Planes.{planes_causes, planes_number}
use Rattle.job_planes.proofs.PlaneStarts.{too_few, enough}
use Rattle.job_planes.proofs.check_planes.Goals as goal

pub returns-then-bad_size : goal.returns-then-bad_size
unfolding planes_number
returns-then-bad_size c =
    let a = c.args in
    sym (first_at (planes_causes a.source a.target a.luma a.cb a.cr) 0 tt (sym c.bad_size.ensures ∙ c.if-bad_size.true))

pub returns-then-bad_size-2 : goal.returns-then-bad_size-2
unfolding planes_number
returns-then-bad_size-2 c =
    let a = c.args in
    let source = sym c.bad_size.ensures ∙ c.if-bad_size.false in
    sym (first_at (planes_causes a.source a.target a.luma a.cb a.cr) 1 (source, tt) (sym c.bad_size-2.ensures ∙ c.if-bad_size-2.true))

pub returns-then-bad_size-3 : goal.returns-then-bad_size-3
unfolding planes_number
returns-then-bad_size-3 c =
    let a = c.args in
    let source = sym c.bad_size.ensures ∙ c.if-bad_size.false in
    let target = sym c.bad_size-2.ensures ∙ c.if-bad_size-2.false in
    let half = sym (rw c.chroma_size.ensures at c.bad_size-3.ensures) in
    sym (first_at (planes_causes a.source a.target a.luma a.cb a.cr) 2 (source, (target, tt)) (half ∙ c.if-bad_size-3.true))

pub returns-then-bad_size-4 : goal.returns-then-bad_size-4
unfolding planes_number
returns-then-bad_size-4 c =
    let a = c.args in
    let source = sym c.bad_size.ensures ∙ c.if-bad_size.false in
    let target = sym c.bad_size-2.ensures ∙ c.if-bad_size-2.false in
    let half-source = sym (rw c.chroma_size.ensures at c.bad_size-3.ensures) ∙ c.if-bad_size-3.false in
    let half = sym (rw c.chroma_size-half_target.ensures at c.bad_size-4.ensures) in
    sym (first_at (planes_causes a.source a.target a.luma a.cb a.cr) 3 (source, (target, (half-source, tt))) (half ∙ c.if-bad_size-4.true))

pub returns-then-luma-target : goal.returns-then-luma-target
unfolding planes_number
returns-then-luma-target c =
    let a = c.args in
    let source = sym c.bad_size.ensures ∙ c.if-bad_size.false in
    let target = sym c.bad_size-2.ensures ∙ c.if-bad_size-2.false in
    let half-source = sym (rw c.chroma_size.ensures at c.bad_size-3.ensures) ∙ c.if-bad_size-3.false in
    let half-target = sym (rw c.chroma_size-half_target.ensures at c.bad_size-4.ensures) ∙ c.if-bad_size-4.false in
    sym (first_at (planes_causes a.source a.target a.luma a.cb a.cr) 4 (source, (target, (half-source, (half-target, tt)))) (too_few _ _ c.if-luma-target.true))

pub returns-then-cb-half_target : goal.returns-then-cb-half_target
unfolding planes_number
returns-then-cb-half_target c =
    let a = c.args in
    let source = sym c.bad_size.ensures ∙ c.if-bad_size.false in
    let target = sym c.bad_size-2.ensures ∙ c.if-bad_size-2.false in
    let half-source = sym (rw c.chroma_size.ensures at c.bad_size-3.ensures) ∙ c.if-bad_size-3.false in
    let half-target = sym (rw c.chroma_size-half_target.ensures at c.bad_size-4.ensures) ∙ c.if-bad_size-4.false in
    let luma = enough _ _ c.if-luma-target.false in
    let short = rw c.chroma_size-half_target.ensures at c.if-cb-half_target.true in
    sym (first_at (planes_causes a.source a.target a.luma a.cb a.cr) 5 (source, (target, (half-source, (half-target, (luma, tt))))) (too_few _ _ short))

pub returns-then-cr-half_target : goal.returns-then-cr-half_target
unfolding planes_number
returns-then-cr-half_target c =
    let a = c.args in
    let source = sym c.bad_size.ensures ∙ c.if-bad_size.false in
    let target = sym c.bad_size-2.ensures ∙ c.if-bad_size-2.false in
    let half-source = sym (rw c.chroma_size.ensures at c.bad_size-3.ensures) ∙ c.if-bad_size-3.false in
    let half-target = sym (rw c.chroma_size-half_target.ensures at c.bad_size-4.ensures) ∙ c.if-bad_size-4.false in
    let luma = enough _ _ c.if-luma-target.false in
    let cb-room = rw c.chroma_size-half_target.ensures at c.if-cb-half_target.false in
    let cb = enough _ _ cb-room in
    let short = rw c.chroma_size-half_target.ensures at c.if-cr-half_target.true in
    sym (first_at (planes_causes a.source a.target a.luma a.cb a.cr) 6 (source, (target, (half-source, (half-target, (luma, (cb, tt)))))) (too_few _ _ short))

pub returns : goal.returns
unfolding planes_number
returns c =
    let a = c.args in
    let source = sym c.bad_size.ensures ∙ c.if-bad_size.false in
    let target = sym c.bad_size-2.ensures ∙ c.if-bad_size-2.false in
    let half-source = sym (rw c.chroma_size.ensures at c.bad_size-3.ensures) ∙ c.if-bad_size-3.false in
    let half-target = sym (rw c.chroma_size-half_target.ensures at c.bad_size-4.ensures) ∙ c.if-bad_size-4.false in
    let luma = enough _ _ c.if-luma-target.false in
    let cb-room = rw c.chroma_size-half_target.ensures at c.if-cb-half_target.false in
    let cr-room = rw c.chroma_size-half_target.ensures at c.if-cr-half_target.false in
    let cb = enough _ _ cb-room in
    let cr = enough _ _ cr-room in
    sym (first_none (planes_causes a.source a.target a.luma a.cb a.cr) (source, (target, (half-source, (half-target, (luma, (cb, (cr, tt))))))))
