-- The four bytes of the word, stored one after another. Assumes nothing.
use native.Mathlib.Omega.{arith}
use lib.ListN.{length-set}
use Rattle.pixels_badge.proofs.Words.{word_put}
use Rattle.pixels_badge.proofs.put_word.Goals as goal

pub bounds-bytes-at-2 : goal.bounds-bytes-at-2
bounds-bytes-at-2 c = simp length-set (omega arith)

pub bounds-bytes-at-3 : goal.bounds-bytes-at-3
bounds-bytes-at-3 c = simp length-set (omega arith)

pub bounds-bytes-at-4 : goal.bounds-bytes-at-4
bounds-bytes-at-4 c = simp length-set (omega arith)

pub returns : goal.returns
returns c = let a = c.args in word_put a.bytes.now _ a.at a.w c.to_le_bytes.ensures
