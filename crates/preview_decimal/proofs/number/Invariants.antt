-- `number` reads digit by digit: what is read so far is kept by each turn, and each way out decides the whole text. Assumes nothing.
use Rattle.preview_decimal.proofs.Reading.{Read}
use Rattle.preview_decimal.proofs.number.Given as goal

abbrev pub invariant-loop-b : goal.invariant-loop-b
invariant-loop-b l = Read l.text l.value l.b-index
