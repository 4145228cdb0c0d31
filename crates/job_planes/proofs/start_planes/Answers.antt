-- `start_planes`: a refusal leaves everything; else each plane's start is accepted, and its job is fresh. Assumes nothing.
use mathlib.Core.Path.{sym, ◌∙◌}
use lib.ListN.{length}
use Rattle.std.proofs.lemmas.Result.{err_from_is_err_and}
use Rattle.pixels.proofs.Numbers.{ok_of, value_of}
use Rattle.job_planes.specs.Planes.{plane_for, chroma_for}
use Rattle.job_planes.proofs.PlaneStarts.{all_start, slice_cleared, slice_kept}
use Rattle.job_planes.proofs.start_planes.Goals as goal

pub returns-in_err-check_planes : goal.returns-in_err-check_planes
returns-in_err-check_planes c =
    let p = err_from_is_err_and c.from_residual.result c.from_residual.ensures.1 in
    let a = c.args in
    let e = sym c.in_err-check_planes.ensures in
    let why = c.in_err-check_planes.field-0.0 in
    rw (p.1, p.2) (record {
      number = sym e;
      jobs = tt;
      luma = slice_kept why _ (plane_for a.source a.target) _ e;
      cb = slice_kept why _ (chroma_for a.source a.target) _ e;
      cr = slice_kept why _ (chroma_for a.source a.target) _ e;
    })

pub unwrap-requires : goal.unwrap-requires
unwrap-requires c =
    let a = c.args in
    let go = all_start a.source a.target (length a.luma.now) (length a.cb.now) (length a.cr.now) (sym c.in_ok-check_planes.ensures) in
    ok_of _ (c.whole_plane.ensures.number ∙ go.luma_starts)

pub unwrap-requires-2 : goal.unwrap-requires-2
unwrap-requires-2 c =
    let a = c.args in
    let go = all_start a.source a.target (length a.luma.now) (length a.cb.now) (length a.cr.now) (sym c.in_ok-check_planes.ensures) in
    let cb = rw (c.chroma_size-half_source.ensures, c.chroma_size-half_target.ensures) at c.whole_plane-2.ensures in
    ok_of _ (cb.number ∙ go.cb_starts)

pub unwrap-requires-3 : goal.unwrap-requires-3
unwrap-requires-3 c =
    let a = c.args in
    let go = all_start a.source a.target (length a.luma.now) (length a.cb.now) (length a.cr.now) (sym c.in_ok-check_planes.ensures) in
    let cr = rw (c.chroma_size-half_source.ensures, c.chroma_size-half_target.ensures) at c.whole_plane-3.ensures in
    ok_of _ (cr.number ∙ go.cr_starts)

pub returns : goal.returns
returns c =
    let a = c.args in
    let z = sym c.in_ok-check_planes.ensures in
    let go = all_start a.source a.target (length a.luma.now) (length a.cb.now) (length a.cr.now) z in
    let half-source = c.chroma_size-half_source.ensures in
    let half-target = c.chroma_size-half_target.ensures in
    let cb = rw (half-source, half-target) at c.whole_plane-2.ensures in
    let cr = rw (half-source, half-target) at c.whole_plane-3.ensures in
    record {
      number = sym z;
      jobs = (value_of _ _ c.unwrap.ensures c.whole_plane.ensures.job, value_of _ _ c.unwrap-2.ensures cb.job, value_of _ _ c.unwrap-3.ensures cr.job);
      luma = slice_cleared _ (plane_for a.source a.target) a.luma.now _ z go.luma_starts c.whole_plane.ensures.work;
      cb = slice_cleared _ (chroma_for a.source a.target) a.cb.now _ z go.cb_starts cb.work;
      cr = slice_cleared _ (chroma_for a.source a.target) a.cr.now _ z go.cr_starts cr.work;
    }
