-- Early returns where there is no band; else the crop rows that the next output row needs, less one and less those used. Assumes nothing.
use native.Mathlib.Omega.{arith}
use mathlib.Core.Path.{sym, refl}
use Rattle.job_band.proofs.Stretching.{band_none, none_above, none_left, none_grows, found_some, found_most, found_used, found_rows}
use Rattle.job_band.proofs.band_of.Goals as goal

pub returns-then-j-p : goal.returns-then-j-p
returns-then-j-p c =
    let j = c.args.j in
    sym (band_none j.plan j.accepted (none_above j.plan j.accepted c.if-j-p.true))

pub returns-then-p : goal.returns-then-p
returns-then-p c =
    let j = c.args.j in
    sym (band_none j.plan j.accepted (none_grows j.plan j.accepted _ refl c.if-p.true))

pub returns-then-p-made : goal.returns-then-p-made
returns-then-p-made c =
    let args = c.args in
    let rows-by = c.made-made in
    let if3 = c.if-p-made in
    let j = args.j in
    sym (band_none j.plan j.accepted (none_left j.plan j.accepted _ rows-by.ensures if3.true))

pub overflow_sub-result : goal.overflow_sub-result
overflow_sub-result c =
    let args = c.args in
    let rows-by = c.made-made in
    let pre = c.requires in
    let if1 = c.if-j-p in
    let if2 = c.if-p in
    let if3 = c.if-p-made in
    let needed-rows = c.needed_rows-needed in
    let j = args.j in
    omega (arith, found_some j.plan j.accepted _ rows-by.ensures pre.sizes if1.false if2.false if3.false _ needed-rows.ensures)

pub overflow_cast-result : goal.overflow_cast-result
overflow_cast-result c =
    let args = c.args in
    let rows-by = c.made-made in
    let pre = c.requires in
    let if1 = c.if-j-p in
    let if2 = c.if-p in
    let if3 = c.if-p-made in
    let needed-rows = c.needed_rows-needed in
    let j = args.j in
    omega (arith, found_most j.plan j.accepted _ rows-by.ensures pre.sizes if1.false if2.false if3.false _ needed-rows.ensures)

pub overflow_sub-result-3 : goal.overflow_sub-result-3
overflow_sub-result-3 c =
    let args = c.args in
    let rows-by = c.made-made in
    let pre = c.requires in
    let if1 = c.if-j-p in
    let if2 = c.if-p in
    let if3 = c.if-p-made in
    let needed-rows = c.needed_rows-needed in
    let j = args.j in
    omega (arith, found_used j.plan j.accepted _ rows-by.ensures pre.sizes if1.false if2.false if3.false _ needed-rows.ensures)

pub returns : goal.returns
returns c =
    let args = c.args in
    let rows-by = c.made-made in
    let pre = c.requires in
    let if1 = c.if-j-p in
    let if2 = c.if-p in
    let if3 = c.if-p-made in
    let needed-rows = c.needed_rows-needed in
    let j = args.j in
    found_rows j.plan j.accepted _ rows-by.ensures pre.sizes if1.false if2.false if3.false _ needed-rows.ensures
