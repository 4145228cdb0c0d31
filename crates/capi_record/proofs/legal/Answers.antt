-- The tests in their order. Assumes nothing.
use Rattle.capi_record.proofs.Records.{too_short, no_layout, no_kind, flag_decides}
use Rattle.capi_record.proofs.legal.Goals as goal

pub returns-then-words-lt-RECORD_WORDS : goal.returns-then-words-lt-RECORD_WORDS
returns-then-words-lt-RECORD_WORDS c = too_short c.args.words.now c.if-words-lt-RECORD_WORDS.true

pub returns-then-words-ge-LAYOUTS : goal.returns-then-words-ge-LAYOUTS
returns-then-words-ge-LAYOUTS c = no_layout c.args.words.now c.if-words-lt-RECORD_WORDS.false c.if-words-ge-LAYOUTS.true

pub returns-then-words-ge-KINDS : goal.returns-then-words-ge-KINDS
returns-then-words-ge-KINDS c = no_kind c.args.words.now c.if-words-lt-RECORD_WORDS.false c.if-words-ge-LAYOUTS.false c.if-words-ge-KINDS.true

pub returns : goal.returns
returns c = flag_decides c.args.words.now c.if-words-lt-RECORD_WORDS.false c.if-words-ge-LAYOUTS.false c.if-words-ge-KINDS.false
