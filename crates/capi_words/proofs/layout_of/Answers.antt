-- A word that is neither 1 nor 2 stands for the first layout. Assumes nothing.
use Rattle.capi_words.proofs.Words.{first_layout}
use Rattle.capi_words.proofs.layout_of.Goals as goal

pub returns-in_default : goal.returns-in_default
returns-in_default c = first_layout c.args.word c.in_default.in_default-own.rest.0.1 c.in_default.in_default-own.rest.1
