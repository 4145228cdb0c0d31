-- The smaller of the rows lent and those left, of the first job. Assumes nothing.
use native.Mathlib.Omega.{arith}
use Rattle.group_rules.proofs.Lawful.{lawful_group}
use Rattle.group_tests.proofs.Testing.{row_some}
use Rattle.group.proofs.most_rows.Goals as goal

pub nonzero_div-lent : goal.nonzero_div-lent
nonzero_div-lent c = let q = lawful_group _ c.requires in let m = q.member 0 q.some in omega (arith, c.row_bytes.ensures, row_some _ m.rules)

pub overflow_sub-left : goal.overflow_sub-left
overflow_sub-left c = let q = lawful_group _ c.requires in omega (arith, (q.member 0 q.some).rules.rows)
