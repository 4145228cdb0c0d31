-- It joins the four bytes. Assumes nothing.
use Rattle.pixels_badge.proofs.Words.{word_is}
use Rattle.pixels_badge.proofs.word.Goals as goal

pub returns : goal.returns
returns c = let a = c.args in word_is a.bytes.now a.at c.from_le_bytes.ensures
