-- `column_sums`: an even number of pixels are pairs, an odd one leaves the last. Assumes nothing.
use Rattle.rows_gathering.proofs.Pairing.{column_even, column_odd}
use Rattle.rows_gathering.proofs.Blocks.{read_byte_lem}
use Rattle.rows_gathering.specs.Gathered.{read_at}
use native.Mathlib.Omega.{arith}
use Rattle.rows_gathering.proofs.column_sums.Goals as goal

pub returns-then-count-eq0 : goal.returns-then-count-eq0
returns-then-count-eq0 c = let a = c.args in column_even (read_at a.plain a.row.now a.alpha.place) a.from a.count c.pairs_by-sum.ensures c.if-count-eq0.true

pub returns : goal.returns
returns c =
    let a = c.args in
    let s = a.row.now in
    let asks = c.requires in
    column_odd (read_at a.plain s a.alpha.place) a.from a.count c.pairs_by-sum.ensures (read_byte_lem a.plain s asks.bytes a.alpha.place) asks.few (omega (arith, c.if-count-eq0.false)) c.one.ensures c.add8.ensures
