-- The smaller of the rows lent and those left. Assumes nothing.
use native.Mathlib.Omega.{arith}
use native.Mathlib.Nat.{mul-le-mul}
use Rattle.job_rules.proofs.KindRules.{lane_count}
use Rattle.job.proofs.Accepting.{most_lent, most_left}
use Rattle.job.proofs.most_rows.Goals as goal

pub nonzero_div-lent : goal.nonzero_div-lent
nonzero_div-lent c =
    let q = c.requires in
    let p = c.args.j.plan in
    let count = lane_count p.kind p.layout p.lanes c.args.j.flag q.kind_fitting in
    omega (arith, c.row_bytes.ensures, mul-le-mul {n₁ = 1} {m₁ = 1} {n₂ = p.lanes} {m₂ = p.source.width} count.some q.sizes.source_width.some)

pub overflow_sub-left : goal.overflow_sub-left
overflow_sub-left c = omega (arith, c.requires.rows)

pub returns-then-lent-left : goal.returns-then-lent-left
returns-then-lent-left c = let a = c.args in most_lent a.j a.n _ c.row_bytes.ensures c.if-lent-left.true

pub returns : goal.returns
returns c = let a = c.args in most_left a.j a.n _ c.row_bytes.ensures c.if-lent-left.false
