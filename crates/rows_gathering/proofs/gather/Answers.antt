-- `gather`: the invariant is `Gathering`, of bytes as they are read. Assumes nothing.
use Rattle.rows_gathering.proofs.Gathering.{gathering_first, next_of, column_asks, gathering_turn, gathered_pixels_lem}
use Rattle.rows_gathering.specs.Gathered.{read_at}
use Rattle.rows_gathering.proofs.gather.Goals as goal

pub loop-k-init : goal.loop-k-init
loop-k-init c =
    let a = c.args in
    gathering_first (read_at a.plain a.row.now a.alpha.place) c.requires.block_asks c.block_columns-count.ensures c.requires.sums_len c.begin-c.ensures

pub column_sums-requires : goal.column_sums-requires
column_sums-requires c =
    let a = c.args in
    let p = read_at a.plain a.row.now a.alpha.place in
    let next = next_of p c.requires.block_asks c.loop-k.invariant c.new-columns.ensures.0 c.new-columns.ensures.1 c.next-c.ensures.stands in
    column_asks p c.requires.block_asks c.loop-k.invariant next c.loop-k-test.true

pub loop-k-preserved : goal.loop-k-preserved
loop-k-preserved c =
    let a = c.args in
    let p = read_at a.plain a.row.now a.alpha.place in
    let next = next_of p c.requires.block_asks c.loop-k.invariant c.new-columns.ensures.0 c.new-columns.ensures.1 c.next-c.ensures.stands in
    gathering_turn p c.requires.block_asks c.loop-k.invariant next c.loop-k-test.true c.column_sums.ensures c.put8.ensures

pub returns-clause-pixels : goal.returns-clause-pixels
returns-clause-pixels c =
    let a = c.args in
    gathered_pixels_lem (read_at a.plain a.row.now a.alpha.place) c.requires.block_asks c.loop-k.invariant c.begin-c.ensures c.loop-k-test.false
