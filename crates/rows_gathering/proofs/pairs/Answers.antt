-- `pairs`: the invariant is `Pairing`, of bytes as they are read. Assumes nothing.
use Rattle.std.proofs.Common.{nat_eq}
use mathlib.Core.Bool.{not}
use Rattle.rows_gathering.proofs.Pairing.{pairing_first, pairing_turn, pairing_done}
use Rattle.rows_gathering.proofs.Blocks.{read_byte_lem}
use Rattle.rows_gathering.specs.Gathered.{read_at}
use Rattle.rows_gathering.proofs.pairs.Goals as goal

pub loop-got-init : goal.loop-got-init
loop-got-init g c = pairing_first (read_at (not (nat_eq g.row.PLAIN 0)) c.args.row.now c.args.alpha.place) c.requires.column_asks c.zero8-sum.ensures

pub loop-got-preserved : goal.loop-got-preserved
loop-got-preserved g c =
    let plain = not (nat_eq g.row.PLAIN 0) in
    let s = c.args.row.now in
    let asks = c.requires.column_asks in
    pairing_turn (read_at plain s c.args.alpha.place) asks c.loop-got.invariant (read_byte_lem plain s asks.bytes c.args.alpha.place) c.loop-got-test.true c.pair.ensures c.add8-sum.ensures

pub returns : goal.returns
returns g c = pairing_done (read_at (not (nat_eq g.row.PLAIN 0)) c.args.row.now c.args.alpha.place) c.requires.column_asks c.loop-got.invariant c.loop-got-test.false
