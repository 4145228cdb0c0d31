-- `block_fits`: each test that turns a block away. Assumes nothing.
use Rattle.rows_gathering.proofs.Blocks.{block_sides, none_grows, none_large, none_long, none_past, fits_whole}
use mathlib.Core.Path.{sym}
use Rattle.rows_gathering.proofs.block_fits.Goals as goal

pub returns-then-n-m : goal.returns-then-n-m
returns-then-n-m c = let a = c.args in sym (none_grows a.n a.m a.first a.bytes c.if-n-m.true)

pub returns-then-n-gt16384 : goal.returns-then-n-gt16384
returns-then-n-gt16384 c = let a = c.args in sym (none_large a.n a.m a.first a.bytes c.if-n-m.false c.if-n-gt16384.true)

pub returns-then-m-n : goal.returns-then-m-n
returns-then-m-n c = let a = c.args in sym (none_long a.n a.m a.first a.bytes c.if-n-m.false c.if-n-gt16384.false c.if-m-n.true)

pub returns-then-m-first : goal.returns-then-m-first
returns-then-m-first c = let a = c.args in sym (none_past a.n a.m a.first a.bytes c.if-n-m.false c.if-n-gt16384.false c.if-m-n.false c.if-m-first.true)

pub returns : goal.returns
returns c = let a = c.args in fits_whole a.n a.m a.first a.bytes (block_sides c.if-n-m.false c.if-n-gt16384.false c.if-m-n.false c.if-m-first.false)
