-- Each way out is a law of what a line says. Assumes nothing.
use mathlib.Core.Path.{sym, ◌∙◌}
use Rattle.pam_line.proofs.Saying.{hash_is, word_full, says_words}
use Rattle.pam_line.proofs.line_says.Goals as goal

pub returns : goal.returns
returns c =
    let plain = sym (c.starts_with.ensures.value ∙ hash_is c.args.line.now) ∙ c.if-starts_with.false in
    let full = word_full _ _ c.run_of.ensures _ c.if-line-run_of.false c.split_word.ensures.word in
    let words = says_words c.args.line.now plain _ _ _ _ _ _ c.split_word.ensures.word full c.keyword_of.ensures in
    c.by_words.ensures ∙ words c.split_word.ensures.past c.split_word-2.ensures.word c.split_word-2.ensures.past c.split_word-3.ensures.word
