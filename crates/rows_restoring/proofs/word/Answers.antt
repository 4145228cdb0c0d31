-- `word` meets its contract: it joins the four lanes. Assumes nothing.
use Rattle.rows_restoring.proofs.RestoredPixels.{word_is}
use Rattle.rows_restoring.proofs.word.Goals as goal

pub returns : goal.returns
returns c =
    let a = c.args in
    word_is a.out.now a.at c.from_le_bytes.ensures
