-- Too few words are left as they were; in enough the answer's words stand first. Assumes nothing.
use mathlib.Core.Path.{sym, ap, ◌∙◌}
use mathlib.Core.List.{List, ◌++◌}
use Prim.Native.Nat.{ℕ}
use lib.ListN.{length, drop}
use Rattle.capi_words.proofs.Words.{stored_enough, stored_short}
use Rattle.capi_words.proofs.store.Goals as goal

pub returns-then-words-answer : goal.returns-then-words-answer
returns-then-words-answer c = stored_short c.args.answer.now c.args.words.now c.if-words-answer.true

pub returns : goal.returns
returns c =
    let a = c.args in
    ap (λ (s : List ℕ). s ++ drop (length a.answer.now) a.words.now) c.copy_from_slice.ensures.after ∙ sym (stored_enough a.answer.now a.words.now c.if-words-answer.false)
